use Rattle.retos_node.proofs.Standing.{no_module_here}
use Rattle.retos_node.proofs.stepping.no_module_runs.Goals as goal

pub returns : goal.returns
returns c =
    no_module_here c.steps_are_safe.ensures c.args.m.now c.args.r.now c.args.moment.step c.args.line c.requires.stands c.requires.case

use Rattle.retos_node.proofs.Standing.{has_row_here}
use Rattle.retos_node.proofs.stepping.has_a_row.Goals as goal

pub returns : goal.returns
returns c =
    has_row_here c.steps_are_safe.ensures c.rowless_is_not_confined.ensures c.args.m.now c.args.r.now c.args.moment.step
    c.requires.stands c.requires.at

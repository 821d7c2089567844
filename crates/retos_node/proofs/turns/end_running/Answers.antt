use Rattle.std.proofs.Common.{sym, ◌∙◌}
use Rattle.retos_node.proofs.RunnerLemmas.{module_fault_left}
use Rattle.retos_node.proofs.turns.end_running.Goals as goal

pub returns-then-module_runs-clause-leaves : goal.returns-then-module_runs-clause-leaves
returns-then-module_runs-clause-leaves c =
    module_fault_left c.args.m.now c.end_module.new.m c.to_front.new.m (sym c.module_runs.ensures ∙ c.if-module_runs.true) c.end_module.ensures.leaves
    c.to_front.ensures.leaves

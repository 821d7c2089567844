use Rattle.node_laws.proofs.Joining.{each-step, each-next}
use Rattle.node_laws.proofs.each_step_is_safe.Goals as goal

pub returns-clause-step : goal.returns-clause-step
returns-clause-step c = each-step

pub returns-clause-next : goal.returns-clause-next
returns-clause-next c = each-next

use Rattle.sync_laws.proofs.WaiterRules.{waiter_ready_rule}
use Rattle.sync_laws.proofs.waiter_may_get_ready.Goals as goal

pub returns : goal.returns
returns c = waiter_ready_rule

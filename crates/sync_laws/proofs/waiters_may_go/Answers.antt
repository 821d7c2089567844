use Rattle.sync_laws.proofs.WaiterRules.{those_may_go}
use Rattle.sync_laws.proofs.waiters_may_go.Goals as goal

pub returns : goal.returns
returns c = those_may_go

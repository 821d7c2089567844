use Rattle.node_laws.proofs.Promising.{locks}
use Rattle.node_laws.proofs.code.locks_are_held.Goals as goal

pub returns : goal.returns
returns c = locks

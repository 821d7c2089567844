use Rattle.sync_laws.proofs.KeptLocks.{locked_keeps}
use Rattle.sync_laws.proofs.locking_keeps_locks.Goals as goal

pub returns : goal.returns
returns c = locked_keeps

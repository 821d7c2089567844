use Rattle.sync_laws.proofs.KeptLocks.{waited_keeps}
use Rattle.sync_laws.proofs.waiting_keeps_locks.Goals as goal

pub returns : goal.returns
returns c = waited_keeps

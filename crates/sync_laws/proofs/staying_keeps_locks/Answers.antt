use Rattle.sync_laws.proofs.KeptLocks.{all_stays}
use Rattle.sync_laws.proofs.staying_keeps_locks.Goals as goal

pub returns : goal.returns
returns c = all_stays

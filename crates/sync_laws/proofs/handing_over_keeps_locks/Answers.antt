use Rattle.sync_laws.proofs.KeptLocks.{unlocked_keeps, all_handed_keep}
use Rattle.sync_laws.proofs.handing_over_keeps_locks.Goals as goal

pub returns-clause-unlocked : goal.returns-clause-unlocked
returns-clause-unlocked c = unlocked_keeps

pub returns-clause-all : goal.returns-clause-all
returns-clause-all c = all_handed_keep

use Rattle.sync_laws.proofs.KeptLocks.{only_owner}
use Rattle.sync_laws.proofs.owners_are_single.Goals as goal

pub returns : goal.returns
returns c = only_owner

use Rattle.sync_laws.proofs.KeptLocks.{handed_runs_rule}
use Rattle.sync_laws.proofs.handed_runs_on.Goals as goal

pub returns : goal.returns
returns c = handed_runs_rule

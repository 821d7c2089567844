use Rattle.unit_laws.proofs.Running.{join}
use Rattle.unit_laws.proofs.runs_join.Goals as goal

pub returns : goal.returns
returns c = join

use Rattle.machine_laws.proofs.Guarded.{push-stays}
use Rattle.machine_laws.proofs.push_stays.Goals as goal

pub returns : goal.returns
returns c = push-stays

use Rattle.machine_laws.proofs.Guarded.{call-stays}
use Rattle.machine_laws.proofs.call_stays.Goals as goal

pub returns : goal.returns
returns c = call-stays

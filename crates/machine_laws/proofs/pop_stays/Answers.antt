use Rattle.machine_laws.proofs.Guarded.{pop-stays}
use Rattle.machine_laws.proofs.pop_stays.Goals as goal

pub returns : goal.returns
returns c = pop-stays

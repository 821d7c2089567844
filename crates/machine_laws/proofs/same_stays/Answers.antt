use Rattle.machine_laws.proofs.Same.{same-stays}
use Rattle.machine_laws.proofs.same_stays.Goals as goal

pub returns : goal.returns
returns c = same-stays

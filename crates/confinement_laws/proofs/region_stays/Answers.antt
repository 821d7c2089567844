use Rattle.confinement_laws.proofs.InStack.{region-stays}
use Rattle.confinement_laws.proofs.region_stays.Goals as goal

pub returns : goal.returns
returns c = region-stays

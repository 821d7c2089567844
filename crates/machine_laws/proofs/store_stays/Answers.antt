use Rattle.machine_laws.proofs.Guarded.{store-stays}
use Rattle.machine_laws.proofs.store_stays.Goals as goal

pub returns : goal.returns
returns c = store-stays

use Rattle.unit_laws.proofs.GuardedUnits.{store-unit}
use Rattle.unit_laws.proofs.store_unit_ends.Goals as goal

pub returns : goal.returns
returns c = store-unit

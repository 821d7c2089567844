use Rattle.unit_laws.proofs.GuardedUnits.{growth-unit}
use Rattle.unit_laws.proofs.growth_unit_ends.Goals as goal

pub returns : goal.returns
returns c = growth-unit

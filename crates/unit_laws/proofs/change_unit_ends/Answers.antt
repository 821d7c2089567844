use Rattle.unit_laws.proofs.GuardedUnits.{change-unit}
use Rattle.unit_laws.proofs.change_unit_ends.Goals as goal

pub returns : goal.returns
returns c = change-unit

use Rattle.unit_laws.proofs.GroupUnits.{group-unit}
use Rattle.unit_laws.proofs.group_unit_ends.Goals as goal

pub returns : goal.returns
returns c = group-unit

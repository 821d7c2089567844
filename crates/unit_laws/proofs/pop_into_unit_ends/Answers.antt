use Rattle.unit_laws.proofs.PopUnits.{pop-into-unit}
use Rattle.unit_laws.proofs.pop_into_unit_ends.Goals as goal

pub returns : goal.returns
returns c = pop-into-unit

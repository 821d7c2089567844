use Rattle.unit_laws.proofs.ComputedUnits.{return-unit}
use Rattle.unit_laws.proofs.return_unit_ends.Goals as goal

pub returns : goal.returns
returns c = return-unit

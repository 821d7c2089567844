use Rattle.unit_laws.proofs.CalleeUnits.{callee-unit}
use Rattle.unit_laws.proofs.callee_unit_ends.Goals as goal

pub returns : goal.returns
returns c = callee-unit

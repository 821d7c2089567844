use Rattle.unit_laws.proofs.GuardedUnits.{pop-unit}
use Rattle.unit_laws.proofs.pop_unit_ends.Goals as goal

pub returns : goal.returns
returns c = pop-unit

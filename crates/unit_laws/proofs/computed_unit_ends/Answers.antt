use Rattle.unit_laws.proofs.ComputedUnits.{computed-unit}
use Rattle.unit_laws.proofs.computed_unit_ends.Goals as goal

pub returns : goal.returns
returns c = computed-unit

use Rattle.placed_unit_laws.proofs.Ending.{unit-ends}
use Rattle.placed_unit_laws.proofs.unit_ends.Goals as goal

pub returns : goal.returns
returns c = unit-ends c.row_laws.ensures c.unit_stands.ensures

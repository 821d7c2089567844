use Rattle.insert_laws.proofs.LineUnits.{units_lie}
use Rattle.insert_laws.proofs.groups_have_units.Goals as goal

pub returns : goal.returns
returns c = units_lie c.instruction_size.ensures c.line_stands.ensures c.groups_stand.ensures c.sizes_alike.ensures

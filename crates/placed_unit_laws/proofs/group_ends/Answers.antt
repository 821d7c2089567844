use Rattle.placed_unit_laws.proofs.GroupStores.{groups-end}
use Rattle.placed_unit_laws.proofs.group_ends.Goals as goal

pub returns : goal.returns
returns c = groups-end c.row_laws.ensures c.group_unit_ends.ensures c.groups_store.ensures c.unit_stands.ensures

use Rattle.unit_laws.proofs.OwnUnits.{own-ends}
use Rattle.unit_laws.proofs.own_unit_ends.Goals as goal

pub returns : goal.returns
returns c = own-ends

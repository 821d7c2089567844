use Rattle.unit_laws.proofs.GoingOn.{goes-on}
use Rattle.unit_laws.proofs.goes_on.Goals as goal

pub returns : goal.returns
returns c = goes-on

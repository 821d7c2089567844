use Rattle.unit_laws.proofs.GoingOn.{goes-to}
use Rattle.unit_laws.proofs.goes_to.Goals as goal

pub returns : goal.returns
returns c = goes-to

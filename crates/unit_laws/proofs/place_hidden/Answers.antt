use Rattle.unit_laws.proofs.Placing.{place}
use Rattle.unit_laws.proofs.place_hidden.Goals as goal

pub returns : goal.returns
returns c = place

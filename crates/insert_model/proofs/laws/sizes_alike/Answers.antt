use Rattle.insert_model.proofs.Layouts.{sized_law}
use Rattle.insert_model.proofs.laws.sizes_alike.Goals as goal

pub returns : goal.returns
returns c = sized_law

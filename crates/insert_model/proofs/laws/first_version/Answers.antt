use Rattle.insert_model.proofs.FirstVersion.{first_law}
use Rattle.insert_model.proofs.laws.first_version.Goals as goal

pub returns : goal.returns
returns c = first_law

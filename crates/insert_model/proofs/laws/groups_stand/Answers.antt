use Rattle.insert_model.proofs.Cutting.{groups_law}
use Rattle.insert_model.proofs.laws.groups_stand.Goals as goal

pub returns : goal.returns
returns c = groups_law

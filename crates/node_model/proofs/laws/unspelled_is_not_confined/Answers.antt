use Rattle.node_model.proofs.Unconfined.{unspelled}
use Rattle.node_model.proofs.laws.unspelled_is_not_confined.Goals as goal

pub returns : goal.returns
returns c = unspelled

use Rattle.node_model.proofs.Unconfined.{rowless}
use Rattle.node_model.proofs.laws.rowless_is_not_confined.Goals as goal

pub returns : goal.returns
returns c = rowless

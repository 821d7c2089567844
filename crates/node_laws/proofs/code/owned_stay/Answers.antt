use Rattle.node_laws.proofs.Owning.{owned-stays}
use Rattle.node_laws.proofs.code.owned_stay.Goals as goal

pub returns : goal.returns
returns c = owned-stays

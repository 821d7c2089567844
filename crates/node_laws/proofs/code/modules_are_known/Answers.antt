use Rattle.node_laws.proofs.Showing.{known}
use Rattle.node_laws.proofs.code.modules_are_known.Goals as goal

pub returns : goal.returns
returns c = known

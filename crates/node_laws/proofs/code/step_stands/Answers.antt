use Rattle.node_laws.proofs.Standing.{stands}
use Rattle.node_laws.proofs.code.step_stands.Goals as goal

pub returns : goal.returns
returns c = stands

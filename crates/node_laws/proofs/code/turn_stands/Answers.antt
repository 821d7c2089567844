use Rattle.node_laws.proofs.Behind.{turn-stands}
use Rattle.node_laws.proofs.code.turn_stands.Goals as goal

pub returns : goal.returns
returns c = turn-stands

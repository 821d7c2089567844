use Rattle.node_laws.proofs.OwnSystem.{node-sound}
use Rattle.node_laws.proofs.holding.nodes_are_sound.Goals as goal

pub returns : goal.returns
returns c = node-sound

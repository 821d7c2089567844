use Rattle.node_laws.proofs.Starting.{started-sound}
use Rattle.node_laws.proofs.started_is_sound.Goals as goal

pub returns : goal.returns
returns c = started-sound

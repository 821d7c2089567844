use Rattle.node_laws.proofs.Raising.{raised-sound}
use Rattle.node_laws.proofs.raised_is_sound.Goals as goal

pub returns : goal.returns
returns c = raised-sound

use Rattle.asm_model.proofs.LinesSound.{drafts_are_sound}
use Rattle.asm_model.proofs.laws.drafts_are_sound.Goals as goal

pub returns : goal.returns
returns c = drafts_are_sound

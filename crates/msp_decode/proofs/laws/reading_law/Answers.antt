use Rattle.msp_decode.proofs.Sound.{reading-law}
use Rattle.msp_decode.proofs.laws.reading_law.Goals as goal

pub returns : goal.returns
returns c = reading-law

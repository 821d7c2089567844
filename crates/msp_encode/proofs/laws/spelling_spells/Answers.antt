use Rattle.msp_encode.proofs.Spelled.{spells}
use Rattle.msp_encode.proofs.laws.spelling_spells.Goals as goal

pub returns : goal.returns
returns c = spells

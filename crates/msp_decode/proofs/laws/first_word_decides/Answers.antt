use Rattle.msp_decode.proofs.Retold.{first-word-decides}
use Rattle.msp_decode.proofs.laws.first_word_decides.Goals as goal

pub returns : goal.returns
returns c = first-word-decides

use Rattle.std.proofs.Common.{◌∷◌, refl}
use Rattle.msp_encode.specs.Spelling.{words_after}
use Rattle.msp_decode.proofs.words.read.Goals as goal

-- the first word, and the words behind it
pub returns-else-n-have-clause-legal : goal.returns-else-n-have-clause-legal
returns-else-n-have-clause-legal c = (c.args.w0 ∷ words_after c.in-Some.i, (c.in-Some.ensures.0, refl))

use Rattle.msp_decode.proofs.Same.{no-proper-prefix}
use Rattle.msp_decode.proofs.laws.no_proper_prefix.Goals as goal

pub returns : goal.returns
returns c = no-proper-prefix

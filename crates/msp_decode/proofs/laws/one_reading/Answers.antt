use Rattle.msp_decode.proofs.Same.{one-reading}
use Rattle.msp_decode.proofs.laws.one_reading.Goals as goal

pub returns : goal.returns
returns c = one-reading

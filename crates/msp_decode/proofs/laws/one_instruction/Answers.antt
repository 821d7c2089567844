use Rattle.msp_decode.proofs.Same.{one-instruction}
use Rattle.msp_decode.proofs.laws.one_instruction.Goals as goal

pub returns : goal.returns
returns c = one-instruction

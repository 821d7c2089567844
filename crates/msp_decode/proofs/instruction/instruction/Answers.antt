use Rattle.std.proofs.Common.{[], ◌∷◌, arith}
use Rattle.msp_decode.proofs.Forms.{option_of_one, option_of_two}
use Rattle.msp_decode.proofs.instruction.instruction.Goals as goal

pub returns-in-1-2 : goal.returns-in-1-2
returns-in-1-2 c = option_of_one c.one.result c.args.word c.args.first c.args.second (omega arith) c.if-word-eq4864.false c.one.ensures

pub returns-in_default : goal.returns-in_default
returns-in_default c = option_of_two c.two.result c.args.word (c.args.first ∷ c.args.second ∷ []) (omega arith) c.two.ensures

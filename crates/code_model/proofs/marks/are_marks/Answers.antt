use Rattle.std.proofs.Common.{arith}
use Rattle.code_model.proofs.marks.are_marks.Goals as goal

pub returns : goal.returns
returns c = record { size = c.requires; small = λ k. omega (arith, c.type_inv.bytes k) }

use Rattle.std.proofs.Common.{w8}
use Rattle.std.proofs.lemmas.Nat.Bits.{bit_at_set_same, bit_at_set_other}
use Rattle.code_model.proofs.marks.with_bit.Goals as goal

pub returns-clause-marked : goal.returns-clause-marked
returns-clause-marked c = bit_at_set_same w8 _ _ c.requires

pub returns-clause-others : goal.returns-clause-others
returns-clause-others c = bit_at_set_other w8 _ _ c.requires

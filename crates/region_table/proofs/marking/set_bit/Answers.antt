use Rattle.std.proofs.Common.{w8}
use Rattle.std.proofs.lemmas.Nat.Bits.{bit_at_set_same, bit_at_set_other}
use Rattle.region_table.proofs.marking.set_bit.Goals as goal

pub returns-clause-here : goal.returns-clause-here
returns-clause-here c = bit_at_set_same w8 _ _ c.requires

pub returns-clause-others : goal.returns-clause-others
returns-clause-others c = λ k h n. bit_at_set_other w8 _ _ c.requires k n

use Rattle.std.proofs.Common.{List, ℕ, sym, subst, ap, ◌∙◌}
use Rattle.region_table.specs.Bits.{BitPut}
use Rattle.std.specs.Int.{bit_at}
use Rattle.region_table.proofs.BitLemmas.{bit_put}
use Rattle.region_table.proofs.marking.put_bit_at.Goals as goal

pub returns : goal.returns
returns c =
    subst (λ (m : List ℕ). BitPut c.args.m.now m c.args.at c.args.value) (sym c.set_byte.ensures.written)
    (bit_put c.tables_stay.ensures.written c.args.m.now c.args.at c.with_bit-byte.result c.args.value c.is_flat.ensures.size c.requires.word c.with_bit-byte.ensures.here
    (λ k h n. c.with_bit-byte.ensures.others k h n ∙ ap (λ (x : ℕ). bit_at x k) c.byte.ensures))

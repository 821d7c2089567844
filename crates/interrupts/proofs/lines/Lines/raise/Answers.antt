use Rattle.std.proofs.Common.{◌∙◌, arith, bit_and}
use Rattle.std.specs.FinSet as set
use Rattle.std.proofs.lemmas.Nat.{and_le_r, or_lt}
use Rattle.interrupts.proofs.Members.{lines_of-low, lines_of-or}
use Rattle.interrupts.proofs.lines.Lines.raise.Goals as goal

pub invariant_of-self : goal.invariant_of-self
invariant_of-self c =
    or_lt 14 c.self.inside.word (bit_and c.args.mask 16383) c.self.invariant (omega (arith, and_le_r c.args.mask 16383))

pub returns : goal.returns
returns c =
    lines_of-or c.self.inside.word (bit_and c.args.mask 16383)
    ∙ (λ i. set.union (c.self.view_is i) (lines_of-low c.args.mask i))

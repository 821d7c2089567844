use Rattle.std.proofs.Common.{◌==◌, arith}
use Rattle.asm_lines.proofs.Cutting.{cut_nowhere, cut_there}
use Rattle.asm_lines.proofs.text.cut.Goals as goal

pub returns-then-at-text-clause-parts : goal.returns-then-at-text-clause-parts
returns-then-at-text-clause-parts c = cut_there (λ b. b == c.args.byte) c.args.text.now c.position-at.result c.position-at.ensures.place c.if-at-text.true

pub returns-else-at-text-clause-parts : goal.returns-else-at-text-clause-parts
returns-else-at-text-clause-parts c = cut_nowhere (λ b. b == c.args.byte) c.args.text.now (omega (arith, c.position-at.ensures.place, c.if-at-text.false))

use Rattle.std.proofs.Common.{arith}
use Rattle.asm_lines.proofs.Capping.{capped_more}
use Rattle.asm_lines.proofs.numbers.size.Goals as goal

pub loop-i-preserved : goal.loop-i-preserved
loop-i-preserved c = (omega (arith, c.min-size.ensures), capped_more c.args.base c.loop-i.size c.min-size.result c.args.digits.now c.loop-i.i c.digit.result _ c.requires.base c.loop-i-test.true c.digit.ensures.value c.min-size.ensures c.loop-i.invariant.1)

use Rattle.std.proofs.Common.{◌∙◌, sym}
use Rattle.read_script.proofs.Cutting.{blank_passed}
use Rattle.read_script.proofs.text.skip_blanks.Goals as goal

pub loop-i-preserved : goal.loop-i-preserved
loop-i-preserved c = blank_passed c.args.text.now c.loop-i.i c.loop-i-test.true (sym c.blank.ensures ∙ c.if-not-blank.false) ∙ c.loop-i.invariant

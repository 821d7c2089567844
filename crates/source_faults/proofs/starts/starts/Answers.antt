use Rattle.std.proofs.Common.{refl}
use Rattle.source_faults.proofs.Startings.{none_marked, marked_more}
use Rattle.source_faults.proofs.starts.starts.Goals as goal

pub loop-line-init : goal.loop-line-init
loop-line-init c = none_marked _ c.args.lines.now c.new-marks.ensures.empty

pub loop-line-preserved : goal.loop-line-preserved
loop-line-preserved c = marked_more _ _ c.args.lines.now c.loop-line.line-index _ _ c.loop-line-test.true refl c.loop-line.invariant c.mark.ensures.marked c.mark.ensures.others

use Rattle.check_inserter.proofs.Naming.{no_jumps, more_jumps}
use Rattle.check_inserter.proofs.named.mark_jumps.Goals as goal

pub loop-line-init : goal.loop-line-init
loop-line-init c = no_jumps _ c.args.lines.now

pub loop-line-preserved : goal.loop-line-preserved
loop-line-preserved c = more_jumps _ _ _ c.args.lines.now c.loop-line.line-index _ c.loop-line-test.true c.loop-line.invariant c.mark_jump.ensures

use Rattle.check_inserter.proofs.Naming.{no_exports, more_exports}
use Rattle.check_inserter.proofs.named.mark_exports.Goals as goal

pub loop-export-init : goal.loop-export-init
loop-export-init c = no_exports _ c.args.exports.now

pub loop-export-preserved : goal.loop-export-preserved
loop-export-preserved c = more_exports _ _ _ c.args.exports.now c.loop-export.export-index _ c.loop-export-test.true c.loop-export.invariant c.mark_offset.ensures

use Rattle.std.proofs.Common.{arith}
use Rattle.kernel_tables.proofs.ClearLemmas.{copies_none, copies_more}
use Rattle.kernel_tables.proofs.emptying.fill.Goals as goal

pub loop-i-init : goal.loop-i-init
loop-i-init c = copies_none c.args.m.now c.args.at c.args.byte

pub loop-i-preserved : goal.loop-i-preserved
loop-i-preserved c =
    copies_more c.args.m.now c.loop-i.m c.set_byte.new.self c.args.at c.loop-i.i c.args.byte c.loop-i.invariant c.set_byte.ensures.written (omega arith)

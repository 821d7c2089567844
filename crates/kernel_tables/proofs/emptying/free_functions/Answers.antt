use Rattle.std.proofs.Common.{◌+◌, ◌*◌, refl, arith}
use Rattle.kernel_tables.proofs.ClearLemmas.{no_function, repeated_none, repeated_more}
use Rattle.kernel_tables.proofs.emptying.free_functions.Goals as goal

pub loop-i-init : goal.loop-i-init
loop-i-init c = repeated_none c.args.m.now no_function 800

pub loop-i-preserved : goal.loop-i-preserved
loop-i-preserved c =
    repeated_more c.args.m.now c.loop-i.m c.put_words.new.m no_function 800 c.loop-i.i 4 (800 + 4 * c.loop-i.i) refl refl c.loop-i.invariant c.put_words.ensures (omega arith)

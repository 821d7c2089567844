use Rattle.std.proofs.Common.{◌+◌, ◌*◌, refl, arith}
use Rattle.kernel_tables.proofs.ClearLemmas.{no_owner, repeated_none, repeated_more}
use Rattle.kernel_tables.proofs.emptying.free_mutexes.Goals as goal

pub loop-i-init : goal.loop-i-init
loop-i-init c = repeated_none c.args.m.now no_owner 2592

pub loop-i-preserved : goal.loop-i-preserved
loop-i-preserved c =
    repeated_more c.args.m.now c.loop-i.m c.put_words.new.m no_owner 2592 c.loop-i.i 8 (2592 + 8 * c.loop-i.i) refl refl c.loop-i.invariant c.put_words.ensures (omega arith)

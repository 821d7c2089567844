use Rattle.std.proofs.Common.{arith}
use Rattle.kernel_threads.proofs.FoldLemmas.{unlisted_ready, unlisted_asleep, emptied_more}
use Rattle.kernel_threads.proofs.ending.empty_rows.Goals as goal

pub set_thread-requires-clause-priority : goal.set_thread-requires-clause-priority
set_thread-requires-clause-priority c there =
    absurd (unlisted_ready c.args.m.now c.loop-n.m c.args.a c.loop-n.n (omega arith) c.requires.not_ready c.loop-n.invariant there)

pub set_thread-requires-clause-wakes : goal.set_thread-requires-clause-wakes
set_thread-requires-clause-wakes c there =
    absurd (unlisted_asleep c.args.m.now c.loop-n.m c.args.a c.loop-n.n (omega arith) c.requires.not_asleep c.loop-n.invariant there)

pub loop-n-preserved : goal.loop-n-preserved
loop-n-preserved c = emptied_more c.args.m.now c.loop-n.m c.set_thread.new.m c.args.a c.loop-n.n c.loop-n.invariant c.set_thread.ensures.leaves

use Rattle.std.proofs.Common.{arith}
use Rattle.kernel_model.specs.Layout.{kernel_of}
use Rattle.kernel_threads.proofs.WakingSteps.{next_goes, next_went, rest_unlisted}
use Rattle.kernel_threads.proofs.starting.each_ready.Goals as goal

pub get_ready-requires-clause-unlisted : goal.get_ready-requires-clause-unlisted
get_ready-requires-clause-unlisted c =
    (next_goes (kernel_of c.loop-t.m) c.args.list.now c.loop-t.t-index (omega arith) c.loop-t.invariant.rest).unlisted

pub get_ready-requires-clause-priority : goal.get_ready-requires-clause-priority
get_ready-requires-clause-priority c =
    (next_goes (kernel_of c.loop-t.m) c.args.list.now c.loop-t.t-index (omega arith) c.loop-t.invariant.rest).priority

pub loop-t-preserved : goal.loop-t-preserved
loop-t-preserved c = record {
  queues = c.get_ready.ensures.queues c.loop-t.invariant.queues;
  went = next_went c.args.m.now c.loop-t.m c.get_ready.new.m c.args.list.now c.loop-t.t-index (omega arith) c.loop-t.invariant.went c.get_ready.ensures;
  rest = rest_unlisted c.loop-t.m c.get_ready.new.m c.args.list.now c.loop-t.t-index c.next_may_wake.ensures (omega arith) c.loop-t.invariant.rest c.get_ready.ensures;
}

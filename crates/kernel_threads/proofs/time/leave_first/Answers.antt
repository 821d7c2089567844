use Rattle.std.proofs.Common.{arith}
use Rattle.kernel_threads.proofs.WakingSteps.{sleeper_stands, sleeper_left}
use Rattle.kernel_threads.proofs.time.leave_first.Goals as goal

pub sleep_take-requires-clause-there : goal.sleep_take-requires-clause-there
sleep_take-requires-clause-there c =
    sleeper_stands c.args.m.now c.loop-t.m c.args.first.now c.loop-t.t-index c.requires.first (omega arith) c.loop-t.invariant.left

pub loop-t-preserved : goal.loop-t-preserved
loop-t-preserved c = record {
  queues = c.sleep_take.ensures.queues;
  left = sleeper_left c.args.m.now c.loop-t.m c.sleep_take.new.m c.args.first.now c.loop-t.t-index c.requires.first (omega arith) c.loop-t.invariant.left c.sleep_take.ensures.leaves;
}

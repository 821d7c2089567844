use Rattle.std.proofs.Common.{drop}
use Rattle.kernel_model.specs.Kernel.{with_sleepers}
use Rattle.kernel_model.specs.Layout.{kernel_of}
use Rattle.kernel_model.specs.Queues.{Leaves, QueuesHold}
use Rattle.kernel_threads.proofs.time.leave_first.Given as goal

abbrev pub invariant-loop-t : goal.invariant-loop-t
invariant-loop-t l = record {
  queues : QueuesHold l.m;
  left : Leaves l.initial.m l.m (with_sleepers (kernel_of l.initial.m) (drop l.t-index (kernel_of l.initial.m).sleepers));
}

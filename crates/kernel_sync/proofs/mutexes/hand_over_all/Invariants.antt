use Rattle.std.specs.List.{fold, range_with_len}
use Rattle.kernel_model.specs.Layout.{kernel_of}
use Rattle.kernel_model.specs.Locks.{RunsOn}
use Rattle.kernel_model.specs.Queues.{Leaves}
use Rattle.kernel_model.specs.Sync.{given_up}
use Rattle.place_model.specs.Settled.{IsSettled}
use Rattle.kernel_sync.proofs.mutexes.hand_over_all.Given as goal

abbrev pub invariant-loop-i : goal.invariant-loop-i
invariant-loop-i l = record {
  settled : IsSettled l.m;
  runs : RunsOn (kernel_of l.initial.m) (kernel_of l.m);
  left : Leaves l.initial.m l.m (fold given_up (kernel_of l.initial.m) (range_with_len 0 l.i));
}

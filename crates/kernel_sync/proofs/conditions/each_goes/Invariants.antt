use Rattle.std.proofs.Common.{take, drop}
use Rattle.std.specs.List.{fold}
use Rattle.kernel_model.specs.Layout.{kernel_of}
use Rattle.kernel_model.specs.Queues.{Leaves, QueuesHold}
use Rattle.kernel_model.specs.Sync.{gone_for}
use Rattle.sync_laws.specs.Waiters.{AllMayGo}
use Rattle.kernel_sync.proofs.conditions.each_goes.Given as goal

abbrev pub invariant-loop-n : goal.invariant-loop-n
invariant-loop-n l = record {
  queues : QueuesHold l.m;
  may : AllMayGo (kernel_of l.m) l.a (drop l.n-index l.going);
  left : Leaves l.initial.m l.m (fold (λ k n. gone_for k l.a n) (kernel_of l.initial.m) (take l.n-index l.going));
}

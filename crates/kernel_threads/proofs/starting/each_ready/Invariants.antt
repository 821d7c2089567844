use Rattle.std.proofs.Common.{take, drop}
use Rattle.kernel_model.specs.Layout.{kernel_of}
use Rattle.kernel_model.specs.Queues.{Leaves, QueuesHold}
use Rattle.kernel_model.specs.Waking.{each_to_end}
use Rattle.thread_laws.specs.Wakings.{AreUnlisted}
use Rattle.kernel_threads.proofs.starting.each_ready.Given as goal

abbrev pub invariant-loop-t : goal.invariant-loop-t
invariant-loop-t l = record {
  queues : QueuesHold l.m;
  went : Leaves l.initial.m l.m (each_to_end (kernel_of l.initial.m) (take l.t-index l.list));
  rest : (let k = kernel_of l.m in AreUnlisted k.threads k.ready k.sleepers (drop l.t-index l.list));
}

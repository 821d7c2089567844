use Rattle.kernel_model.specs.Layout.{kernel_of}
use Rattle.kernel_model.specs.Queues.{Leaves}
use Rattle.kernel_threads.proofs.FoldLemmas.{waits_emptied}
use Rattle.kernel_threads.proofs.ending.end_waits.Given as goal

abbrev pub invariant-loop-i : goal.invariant-loop-i
invariant-loop-i l = Leaves l.initial.m l.m (waits_emptied (kernel_of l.initial.m) l.a l.i)

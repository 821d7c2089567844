use Rattle.kernel_model.specs.Layout.{kernel_of}
use Rattle.kernel_model.specs.Queues.{Leaves}
use Rattle.kernel_threads.specs.Leaving.{rows_emptied}
use Rattle.kernel_threads.proofs.ending.empty_rows.Given as goal

abbrev pub invariant-loop-n : goal.invariant-loop-n
invariant-loop-n l = Leaves l.initial.m l.m (rows_emptied (kernel_of l.initial.m) l.a l.n)

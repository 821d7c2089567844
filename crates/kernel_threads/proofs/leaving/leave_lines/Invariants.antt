use Rattle.kernel_model.specs.Layout.{kernel_of}
use Rattle.kernel_model.specs.Queues.{Leaves}
use Rattle.kernel_threads.specs.Leaving.{with_lines}
use Rattle.kernel_threads.proofs.LineLemmas.{lines_left}
use Rattle.kernel_threads.proofs.leaving.leave_lines.Given as goal

abbrev pub invariant-loop-n : goal.invariant-loop-n
invariant-loop-n l = Leaves l.initial.m l.m (with_lines (kernel_of l.initial.m) (lines_left l.a (kernel_of l.initial.m).lines l.n))

-- Sleeping, waiting for a line and waking keep a kernel settled.
use Rattle.std.specs.Prelude.{◌≢◌, ℕ, ◌<◌, List, slice_index}
use Rattle.kernel_model.specs.Kernel.{Kernel}
use Rattle.place_model.specs.Settled.{IsSettledKernel}
use Rattle.kernel_model.specs.Running.{ThreadRuns}
use Rattle.kernel_model.specs.Waking.{slept, ticked, waiting_line, woken_line}

abbrev pub SleptLaw : Type 0
SleptLaw = (k : Kernel) (r : List ℕ) → IsSettledKernel k → ThreadRuns k → slice_index r 12 ≢ 0 → IsSettledKernel (slept k r)

abbrev pub TickedLaw : Type 0
TickedLaw = (k : Kernel) → IsSettledKernel k → IsSettledKernel (ticked k)

abbrev pub WaitingLineLaw : Type 0
WaitingLineLaw = (k : Kernel) (r : List ℕ) → IsSettledKernel k → ThreadRuns k → slice_index r 12 < 14 → IsSettledKernel (waiting_line k r)

abbrev pub WokenLineLaw : Type 0
WokenLineLaw = (k : Kernel) (n : ℕ) → IsSettledKernel k → n < 14 → IsSettledKernel (woken_line k n)

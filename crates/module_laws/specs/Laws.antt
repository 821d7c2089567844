-- What the calls on modules do keeps a kernel settled.
use Rattle.std.specs.Prelude.{◌≡◌, ◌≢◌, ℕ, ◌<◌, List, length, slice_index}
use Rattle.kernel_model.specs.Kernel.{Kernel, function_at, module_at}
use Rattle.kernel_model.specs.Words.{none, live, running_module}
use Rattle.kernel_model.specs.Running.{ThreadRuns}
use Rattle.kernel_model.specs.Modules.{entered, left, module_ended}
use Rattle.place_model.specs.Settled.{IsSettledKernel}

-- a running thread calls a function of a live module
abbrev pub EnteredLaw : Type 0
EnteredLaw = (k : Kernel) (r : List ℕ) → IsSettledKernel k → ThreadRuns k → length r ≡ 16
    → (function_at k (slice_index r 12)).module < 4
    → (module_at k (function_at k (slice_index r 12)).module).state ≡ live → IsSettledKernel (entered k r)

-- a running module leaves
abbrev pub LeftLaw : Type 0
LeftLaw = (k : Kernel) (r : List ℕ) → IsSettledKernel k → running_module k ≢ none → IsSettledKernel (left k r)

-- a running module ends
abbrev pub EndedLaw : Type 0
EndedLaw = (k : Kernel) → IsSettledKernel k → running_module k ≢ none → IsSettledKernel (module_ended k)

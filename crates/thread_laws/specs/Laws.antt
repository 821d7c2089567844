-- What the calls on threads do to a kernel keeps it settled.
use Rattle.std.specs.Prelude.{◌≡◌, ℕ, ◌<◌, ◌≤◌, List, length, slice_index, Option}
use Rattle.kernel_model.specs.Kernel.{Kernel, app_at}
use Rattle.kernel_model.specs.Locks.{EndsLocks}
use Rattle.kernel_model.specs.Words.{none, live, running_module}
use Rattle.place_model.specs.Settled.{IsSettledKernel}
use Rattle.kernel_model.specs.declared.ends.AppEnd.{AppEnd}
use Rattle.kernel_model.specs.Running.{ThreadRuns, NoneRuns}
use Rattle.kernel_model.specs.Starting.{begun, MayBegin}
use Rattle.kernel_model.specs.Dispatching.{saved, moved_to_front, moved_to_end, dispatched}
use Rattle.kernel_model.specs.Entries.{with_priority}
use Rattle.kernel_model.specs.Ending.{ended, exited, OwnsNone}

abbrev pub SavedLaw : Type 0
SavedLaw = (k : Kernel) (r : List ℕ) → IsSettledKernel k → ThreadRuns k → length r ≡ 16 → IsSettledKernel (saved k r)

abbrev pub FrontLaw : Type 0
FrontLaw = (k : Kernel) → IsSettledKernel k → ThreadRuns k → IsSettledKernel (moved_to_front k)

abbrev pub EndLaw : Type 0
EndLaw = (k : Kernel) → IsSettledKernel k → ThreadRuns k → IsSettledKernel (moved_to_end k)

abbrev pub DispatchedLaw : Type 0
DispatchedLaw = (k : Kernel) (pick : Option ℕ) → IsSettledKernel k → NoneRuns k → IsSettledKernel (dispatched k pick)

abbrev pub BegunLaw : Type 0
BegunLaw = (k : Kernel) (t pc priority r12 : ℕ) → IsSettledKernel k → MayBegin k t → priority ≤ 7 → IsSettledKernel (begun k t pc priority r12)

abbrev pub PriorityLaw : Type 0
PriorityLaw = (k : Kernel) (r : List ℕ) → IsSettledKernel k → ThreadRuns k → slice_index r 12 ≤ 7 → IsSettledKernel (with_priority k r)

-- ---- ends

abbrev pub EndedLaw : Type 0
EndedLaw = (k : Kernel) (a : ℕ) (how : AppEnd) → IsSettledKernel k → a < 8 → (app_at k a).state ≡ live → running_module k ≡ none → IsSettledKernel (ended k a how)

abbrev pub EndedLocksLaw : Type 0
EndedLocksLaw = (k : Kernel) (a : ℕ) (how : AppEnd) → IsSettledKernel k → a < 8 → EndsLocks k (ended k a how) a

abbrev pub ExitedLaw : Type 0
ExitedLaw = (k : Kernel) → IsSettledKernel k → ThreadRuns k → OwnsNone k → IsSettledKernel (exited k)

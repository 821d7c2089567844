-- What the calls on mutexes and conditions do to a kernel keeps it settled.
use Rattle.std.specs.Prelude.{◌≡◌, ◌≢◌, ℕ, ◌<◌, List}
use Rattle.kernel_model.specs.Kernel.{Kernel}
use Rattle.kernel_model.specs.Words.{running, running_module, owner_of, waiters_of}
use Rattle.place_model.specs.Settled.{IsSettledKernel}
use Rattle.kernel_model.specs.Running.{ThreadRuns}
use Rattle.kernel_model.specs.Sync.{own_app, own_number, handed_to, locked, unlocked, waiting_condition, woken, all_handed_over}

abbrev pub HandedLaw : Type 0
HandedLaw = (k : Kernel) (a i : ℕ) (ws : List ℕ) → IsSettledKernel k → a < 8 → i < 4 → waiters_of k a i ≡ ws → IsSettledKernel (handed_to k a i ws)

abbrev pub UnlockedLaw : Type 0
UnlockedLaw = (k : Kernel) (i : ℕ) → IsSettledKernel k → ThreadRuns k → i < 4 → IsSettledKernel (unlocked k i)

abbrev pub LockedLaw : Type 0
LockedLaw = (k : Kernel) (i : ℕ) → IsSettledKernel k → ThreadRuns k → i < 4 → owner_of k (own_app k) i ≢ own_number k → IsSettledKernel (locked k i)

abbrev pub WaitedLaw : Type 0
WaitedLaw = (k : Kernel) (c i : ℕ) → IsSettledKernel k → ThreadRuns k → c < 4 → i < 4 → owner_of k (own_app k) i ≡ own_number k → IsSettledKernel (waiting_condition k c i)

abbrev pub WokenLaw : Type 0
WokenLaw = (k : Kernel) (c count : ℕ) → IsSettledKernel k → ThreadRuns k → c < 4 → IsSettledKernel (woken k c count)

-- the running thread runs on, and owns none of its first mutexes
pub record IsHandedOver (before after : Kernel) (n : ℕ) : Type 0 where
  pub settled : IsSettledKernel after
  pub running : running after ≡ running before
  pub in_module : running_module after ≡ running_module before
  pub given : (i : ℕ) → i < n → owner_of after (own_app before) i ≢ own_number before

abbrev pub AllHandedLaw : Type 0
AllHandedLaw = (k : Kernel) → IsSettledKernel k → ThreadRuns k → IsHandedOver k (all_handed_over k) 4

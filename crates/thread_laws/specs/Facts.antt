-- What an orderly kernel says of the running thread and of ready ones.
use Rattle.std.specs.Prelude.{◌≡◌, ℕ, ◌<◌, ◌≤◌, length, Contains}
use Rattle.kernel_model.specs.declared.states.TheConstants.{FREE}
use Rattle.kernel_model.specs.Kernel.{Kernel, thread_at, app_at}
use Rattle.kernel_model.specs.Words.{live, ready, running_state, running, app_of, number_of, priority_of}
use Rattle.kernel_model.specs.Orderly.{IsOrderly}
use Rattle.kernel_model.specs.Running.{ThreadRuns}

-- the running thread: its row says so, it is in neither queue, and it is one of a live application's
pub record IsRunning (k : Kernel) (t : ℕ) : Type 0 where
  pub number : t < 32
  pub state : (thread_at k t).state ≡ running_state
  pub registers : length (thread_at k t).regs ≡ 16
  pub priority : priority_of k t ≤ 7
  pub not_ready : Contains k.ready t → ⊥
  pub not_asleep : Contains k.sleepers t → ⊥
  pub app : (app_at k (app_of t)).state ≡ live
  pub within : number_of t < (app_at k (app_of t)).threads

-- a ready thread
pub record IsReady (k : Kernel) (t : ℕ) : Type 0 where
  pub number : t < 32
  pub state : (thread_at k t).state ≡ ready
  pub registers : length (thread_at k t).regs ≡ 16
  pub priority : priority_of k t ≤ 7
  pub not_asleep : Contains k.sleepers t → ⊥

-- a thread that isn't live is in neither queue
pub record IsUnlisted (k : Kernel) (t : ℕ) : Type 0 where
  pub not_ready : Contains k.ready t → ⊥
  pub not_asleep : Contains k.sleepers t → ⊥

abbrev pub RunningLaw : Type 0
RunningLaw = (k : Kernel) → IsOrderly k → ThreadRuns k → IsRunning k (running k)

abbrev pub ReadyLaw : Type 0
ReadyLaw = (k : Kernel) → IsOrderly k → (t : ℕ) → Contains k.ready t → IsReady k t

abbrev pub UnlistedLaw : Type 0
UnlistedLaw = (k : Kernel) → IsOrderly k → (t : ℕ) → (thread_at k t).state ≡ FREE → IsUnlisted k t

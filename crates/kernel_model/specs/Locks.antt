-- What is promised of owners of mutexes, and of those that wait for mutexes and conditions.
use Rattle.std.specs.Prelude.{◌≡◌, ◌≢◌, ℕ, ◌<◌, ◌⊎◌, List, [], ◌++◌, Contains}
use Rattle.kernel_model.specs.Kernel.{Kernel, thread_at, app_at, mutex_at, condition_at}
use Rattle.kernel_model.specs.Orderly.{IsLiveThread}
use Rattle.kernel_model.specs.Words.{none, free, ready, running, running_module, identity, owner_of, waiters_of}

-- thread n of application a owns mutex i
abbrev pub IsOwner : Kernel → (a i n : ℕ) → Type 0
IsOwner k a i n = (owner_of k a i ≡ n) × (n ≢ none)

-- it waits for mutex i
abbrev pub WaitsForMutex : Kernel → (a i n : ℕ) → Type 0
WaitsForMutex k a i n = Contains (waiters_of k a i) n

-- it waits for condition c
abbrev pub WaitsForCondition : Kernel → (a c n : ℕ) → Type 0
WaitsForCondition k a c n = Contains (condition_at k a c) n

-- it owns mutex i, and is ready
abbrev pub HasTaken : Kernel → (a i n : ℕ) → Type 0
HasTaken k a i n = (owner_of k a i ≡ n) × ((thread_at k (identity a n)).state ≡ ready)

-- it came to wait for mutex i, behind all that waited before
abbrev pub HasJoined : (before after : Kernel) → (a i n : ℕ) → Type 0
HasJoined k k' a i n = (came : List ℕ) × (waiters_of k' a i ≡ waiters_of k a i ++ came) × Contains came n

-- ---- in a kernel

-- thread n of application a is live, and so is the application
pub record IsLiveOwner (k : Kernel) (a n : ℕ) : Type 0 where
  pub number : n < 4
  pub alive : (thread_at k (identity a n)).state ≢ free
  pub of_app : IsLiveThread (app_at k a) (identity a n)

-- what holds of each mutex and of each condition
pub record LocksHeld (k : Kernel) : Type 0 where
  -- a mutex has at most one owner
  pub one_owner : (a i n p : ℕ) → a < 8 → i < 4 → IsOwner k a i n → IsOwner k a i p → n ≡ p
  -- which is a live thread of its application
  pub live_owner : (a i n : ℕ) → a < 8 → i < 4 → IsOwner k a i n → IsLiveOwner k a n
  -- and doesn't wait for it
  pub owner_waits_not : (a i n : ℕ) → a < 8 → i < 4 → IsOwner k a i n → WaitsForMutex k a i n → ⊥
  -- who waits for a condition waits for no mutex
  pub waits_once : (a c i n : ℕ) → a < 8 → c < 4 → i < 4 → WaitsForCondition k a c n → WaitsForMutex k a i n → ⊥

-- ---- between two kernels, where no application ends

pub record KeepsMutexes (before after : Kernel) : Type 0 where
  -- who owns a mutex still does, but for the running thread
  pub owners : (a i n : ℕ) → a < 8 → i < 4 → IsOwner before a i n → identity a n ≢ running before → owner_of after a i ≡ n
  -- who is ready still is
  pub readies : (t : ℕ) → t < 32 → (thread_at before t).state ≡ ready → (thread_at after t).state ≡ ready
  -- who waits for a mutex still does, or owns it
  pub waiters : (a i n : ℕ) → a < 8 → i < 4 → WaitsForMutex before a i n → WaitsForMutex after a i n ⊎ HasTaken after a i n

pub record KeepsLocks (before after : Kernel) : Type 0 where
  pub mutexes : KeepsMutexes before after
  -- who waits for a condition still does, or owns the mutex that it is to take again, or waits for that one behind all others
  pub conditions : (a c n : ℕ) → a < 8 → c < 4 → WaitsForCondition before a c n → WaitsForCondition after a c n
      ⊎ (HasTaken after a (thread_at before (identity a n)).mutex n ⊎ HasJoined before after a (thread_at before (identity a n)).mutex n)

-- the same thread runs, and the same module or none
pub record RunsOn (before after : Kernel) : Type 0 where
  pub thread : running after ≡ running before
  pub in_module : running_module after ≡ running_module before

-- ---- where application a ends

-- its mutexes are free, and nobody waits for them or for its conditions; those of the others are as they were
pub record EndsLocks (before after : Kernel) (a : ℕ) : Type 0 where
  pub owners : (i : ℕ) → i < 4 → owner_of after a i ≡ none
  pub waiters : (i : ℕ) → i < 4 → waiters_of after a i ≡ []
  pub conditions : (c : ℕ) → c < 4 → condition_at after a c ≡ []
  pub other_mutexes : (b i : ℕ) → b ≢ a → i < 4 → mutex_at after b i ≡ mutex_at before b i
  pub other_conditions : (b c : ℕ) → b ≢ a → c < 4 → condition_at after b c ≡ condition_at before b c

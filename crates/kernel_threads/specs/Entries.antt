-- What the entries on threads answer and leave.
use Rattle.std.specs.Prelude.{◌≡◌, ◌↔◌, ℕ, Bool, IsTrue, List, slice_index, Option, None, Some, Result, Ok, Err}
use Rattle.kernel_model.specs.Kernel.{Kernel}
use Rattle.kernel_model.specs.Layout.{kernel_of}
use Rattle.kernel_model.specs.Words.{number_of}
use Rattle.kernel_model.specs.Queues.{Leaves}
use Rattle.kernel_model.specs.declared.code.Code.{Code}
use Rattle.kernel_model.specs.Entries.{next_thread, spawn_code, spawned}
use Rattle.place_model.specs.Marking.{IsOwnMark}

-- with no code the value is answered and the kernel is left; else the code is answered, and memory is as it was
abbrev pub AnswersBy : {A : Type 0} → (before after : List ℕ) → Option Code → (left : Kernel) → (value : A) → Result A Code → Type 0
AnswersBy m m' None k v answer = (answer ≡ Ok v) × Leaves m m' k
AnswersBy m m' (Some code) k v answer = (answer ≡ Err code) × (m' ≡ m)

-- with no code there is a new thread, and its number is answered
abbrev pub SpawnedBy : (before after registers : List ℕ) → Option Code → Result ℕ Code → Type 0
SpawnedBy m m' r code answer = AnswersBy m m' code (spawned (kernel_of m) r) (number_of (next_thread (kernel_of m))) answer

-- the same, where b says whether R12 is a mark of the running thread's application
pub record Spawns (before after registers : List ℕ) (answer : Result ℕ Code) (b : Bool) : Type 0 where
  pub marked : IsTrue b ↔ IsOwnMark before (slice_index registers 12)
  pub by_code : SpawnedBy before after registers (spawn_code (kernel_of before) registers b) answer

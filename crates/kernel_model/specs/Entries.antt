-- What the calls on threads answer and do: codes in the order in which they are tested.
use Rattle.std.specs.Prelude.{ℕ, ◌==◌, Bool, nat_lt, not, ◌||◌, if◌then◌else◌, List, [], ◌∷◌, length, slice_index, Option, None, Some}
use Rattle.kernel_model.specs.Kernel.{Kernel, with_thread}
use Rattle.kernel_model.specs.Words.{running, app_of, caller_row}
use Rattle.kernel_model.specs.declared.code.Code.{Code}
use Rattle.kernel_model.specs.declared.code.Code.TheVariants.{Full, BadArgument}
use Rattle.kernel_model.specs.Starting.{begun, free_threads}

-- the code of the first test that holds
abbrev pub first_code : List (Bool × Code) → Option Code
first_code [] = None
first_code (x ∷ xs) = if x.0 then Some x.1 else first_code xs

-- ---- spawn

-- the least free thread of the caller's application
abbrev pub next_thread : Kernel → ℕ
next_thread k = slice_index (free_threads k (app_of (running k))) 0

abbrev pub spawn_code : Kernel → (registers : List ℕ) → (is_marked : Bool) → Option Code
spawn_code k r m = first_code ((not m || nat_lt 7 (slice_index r 13), BadArgument) ∷ (length (free_threads k (app_of (running k))) == 0, Full) ∷ [])

-- the new thread gets PC from R12, its priority from R13 and R12 from R14
abbrev pub spawned : Kernel → (registers : List ℕ) → Kernel
spawned k r = begun k (next_thread k) (slice_index r 12) (slice_index r 13) (slice_index r 14)

-- ---- priority

abbrev pub priority_code : (registers : List ℕ) → Option Code
priority_code r = first_code ((nat_lt 7 (slice_index r 12), BadArgument) ∷ [])

-- the caller's priority becomes R12
abbrev pub with_priority : Kernel → (registers : List ℕ) → Kernel
with_priority k r = with_thread k (running k) (record (caller_row k) { priority = slice_index r 12 })

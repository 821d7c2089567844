-- What written bytes leave.
use Rattle.std.specs.Prelude.{◌≡◌, ℕ, ◌+◌, ◌/◌, ◌*◌, ◌<◌, ◌≤◌, ◌⊎◌, List, slice_index}
use Rattle.std.specs.List.{AllByRecursion}
use Rattle.machine_model.specs.Memory.{IsMemory, put_all, word_at}
use Rattle.machine_model.specs.Context.{IsContext}
use Rattle.machine_model.specs.Does.{does, memory_after}
use Rattle.msp_encode.specs.declared.instr.Instr.{Instr}

-- an instruction writes bytes
abbrev pub WrittenLaw : Type 0
WrittenLaw = (m c : List ℕ) (i : Instr) (n : ℕ) → IsMemory m → IsContext c → AllByRecursion (λ w. w.1 < 256) (does m c i n).written

-- memory stays one
abbrev pub MemoryLaw : Type 0
MemoryLaw = (m r : List ℕ) (i : Instr) (n : ℕ) → IsMemory m → IsContext r → IsMemory (memory_after m (does m r i n))

-- no pair has an address in [from, to)
abbrev pub Avoids : (from to : ℕ) → List (ℕ × ℕ) → Type 0
Avoids from to ws = AllByRecursion (λ w. (w.0 < from) ⊎ (to ≤ w.0)) ws

-- the bytes of [from, to) are the same
abbrev pub SamePart : (from to : ℕ) (m n : List ℕ) → Type 0
SamePart from to m n = (k : ℕ) → from ≤ k → k < to → slice_index n k ≡ slice_index m k

-- writes leave what they avoid
abbrev pub PartLaw : Type 0
PartLaw = (from to : ℕ) (m : List ℕ) (ws : List (ℕ × ℕ)) → Avoids from to ws → SamePart from to m (put_all m ws)

-- words in such a part are the same
abbrev pub WordLaw : Type 0
WordLaw = (from to : ℕ) (m n : List ℕ) (a : ℕ) → SamePart from to m n → from ≤ a / 2 * 2 → a / 2 * 2 + 1 < to → word_at n a ≡ word_at m a

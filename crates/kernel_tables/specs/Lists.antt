-- Members that stand once.
use Rattle.std.specs.Prelude.{◌≢◌, ℕ, ◌<◌, List, length, slice_index}

-- none of the first members is t
abbrev pub IsNewAt : List ℕ → (t count : ℕ) → Type 0
IsNewAt xs t count = (k : ℕ) → k < count → slice_index xs k ≢ t

-- no member of the first list stands in the second
abbrev pub AreApart : List ℕ → List ℕ → Type 0
AreApart xs ys = (i : ℕ) → i < length xs → IsNewAt ys (slice_index xs i) (length ys)

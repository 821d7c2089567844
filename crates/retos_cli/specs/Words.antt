-- A word of several.
use Rattle.std.specs.Prelude.{ℕ, List, [], slice_get, unwrap_or}

-- the word at a place, or no bytes past the end
abbrev pub word : List (List ℕ) → ℕ → List ℕ
word words at = unwrap_or (slice_get words at) []

-- The bytes of two pushed words.
use Rattle.std.specs.Prelude.{ℕ, ◌+◌, ◌/◌, ◌%◌, List, [], ◌∷◌}
use Rattle.machine_model.specs.Memory.{even}
use Rattle.machine_model.specs.Accepting.{by_address}

-- a status at the lower address and PC at the upper one, in rising address
abbrev pub pushed_bytes : (lower status upper pc : ℕ) → List (ℕ × ℕ)
pushed_bytes b s a p = by_address ((even b, s % 256) ∷ (even b + 1, s / 256) ∷ (even a, p % 256) ∷ (even a + 1, p / 256) ∷ [])

-- Sets of places as marks.
use Rattle.std.specs.Prelude.{ℕ, ◌↔◌, ◌⊎◌, List}
use Rattle.kernel_model.specs.Bitmap.{Has}

-- the new marks are the old and those that the fact holds of
abbrev pub Adds : (old new : List ℕ) → (ℕ → Type 0) → Type 0
Adds old new P = (k : ℕ) → Has new k ↔ (Has old k ⊎ P k)

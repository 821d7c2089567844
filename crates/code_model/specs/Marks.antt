-- Marks of code words as a list of bytes.
use Rattle.std.specs.Prelude.{◌≡◌, ℕ, ◌<◌, List, length, slice_index}

-- a bitmap of 8,192 bits
pub record AreMarks (marks : List ℕ) : Type 0 where
  pub size : length marks ≡ 1024
  pub small : (k : ℕ) → slice_index marks k < 256

-- Which lists of bytes are names.
use Rattle.std.specs.Prelude.{◌≡◌, ℕ, ◌≤◌, ◌<◌, ◌⊎◌, List, length}

-- 1 to 255 bytes
abbrev pub IsName : List ℕ → Type 0
IsName bytes = (1 ≤ length bytes) × (length bytes ≤ 255)

-- no byte, or over 255
abbrev pub NoName : List ℕ → Type 0
NoName bytes = (length bytes ≡ 0) ⊎ (255 < length bytes)

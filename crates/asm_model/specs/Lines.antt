-- The lines of a text.
use Rattle.std.specs.Prelude.{ℕ, ◌-◌, ◌==◌, ◌&&◌, ◌||◌, nat_le, Bool, true, false, List, [], ◌∷◌, length, take, if◌then◌else◌}
use Rattle.std.specs.List.{slice_split, slice_index_or}

abbrev pub is_line_feed : ℕ → Bool
is_line_feed b = b == 10

-- 20 to 7E, and the tab
abbrev pub is_text_byte : ℕ → Bool
is_text_byte b = (nat_le 32 b && nat_le b 126) || b == 9

abbrev pub is_nil : {X : Type 0} → List X → Bool
is_nil [] = true
is_nil (x ∷ xs) = false

-- the last byte, or 0 where there is none
abbrev pub last_byte : List ℕ → ℕ
last_byte bytes = slice_index_or bytes (length bytes - 1) 0

-- a CR at the end is dropped
unfoldable pub without_return : List ℕ → List ℕ
without_return line = if last_byte line == 13 then take (length line - 1) line else line

-- each line but the last was ended by LF
abbrev pub ended : List (List ℕ) → List (List ℕ)
ended [] = []
ended (line ∷ lines) = (if is_nil lines then line else without_return line) ∷ ended lines

-- the lines of a text, where the last LF may be missing
unfoldable pub lines_of : List ℕ → List (List ℕ)
lines_of text = ended (slice_split is_line_feed text)

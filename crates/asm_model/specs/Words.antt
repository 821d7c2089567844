-- The parts of a line.
use Rattle.std.specs.Prelude.{ℕ, ◌-◌, ◌+◌, ◌==◌, ◌||◌, not, nat_eq, Bool, List, [], length, take, drop, map, if◌then◌else◌}
use Rattle.std.specs.List.{position_or_len, before_first, slice_index_or, slice_split, suffix_len}
use Rattle.std.specs.Cmp.Lexicographic.{pointwise}
use Rattle.std.specs.Char.{to_ascii_uppercase}
use Rattle.asm_model.specs.Lines.{is_nil}

-- space and tab
abbrev pub is_blank : ℕ → Bool
is_blank b = b == 32 || b == 9

abbrev pub is_not_blank : ℕ → Bool
is_not_blank b = not (is_blank b)

abbrev pub is_semicolon : ℕ → Bool
is_semicolon b = b == 59

abbrev pub is_comma : ℕ → Bool
is_comma b = b == 44

-- what ends a line's first word
abbrev pub is_blank_or_colon : ℕ → Bool
is_blank_or_colon b = is_blank b || b == 58

-- without the blanks at the front
unfoldable pub trimmed_start : List ℕ → List ℕ
trimmed_start bytes = drop (position_or_len is_not_blank bytes) bytes

-- without the blanks at the end
unfoldable pub trimmed_end : List ℕ → List ℕ
trimmed_end bytes = take (length bytes - suffix_len is_blank bytes) bytes

abbrev pub trimmed : List ℕ → List ℕ
trimmed bytes = trimmed_end (trimmed_start bytes)

-- the bytes up to the first blank
unfoldable pub first_word : List ℕ → List ℕ
first_word bytes = before_first is_blank bytes

-- what stands behind the first word
unfoldable pub behind_word : List ℕ → List ℕ
behind_word bytes = trimmed_start (drop (position_or_len is_blank bytes) bytes)

-- a line without comment and without blanks at its ends
unfoldable pub body_of : List ℕ → List ℕ
body_of line = trimmed (before_first is_semicolon line)

-- where a body's first word ends
abbrev pub word_end : List ℕ → ℕ
word_end body = position_or_len is_blank_or_colon body

-- the first word stands before a colon
unfoldable pub has_colon : List ℕ → Bool
has_colon body = slice_index_or body (word_end body) 0 == 58

unfoldable pub before_colon : List ℕ → List ℕ
before_colon body = take (word_end body) body

unfoldable pub behind_colon : List ℕ → List ℕ
behind_colon body = trimmed_start (drop (word_end body + 1) body)

-- the operands of a list that commas part: none where there is nothing
unfoldable pub operands_of : List ℕ → List (List ℕ)
operands_of rest = if is_nil rest then [] else map trimmed (slice_split is_comma rest)

-- a word is this keyword, in either case. Keywords are given in upper case
unfoldable pub word_is : List ℕ → List ℕ → Bool
word_is word keyword = pointwise nat_eq (map to_ascii_uppercase word) keyword

-- Names, registers and what names stand for.
use Rattle.std.specs.Prelude.{ℕ, ◌-◌, ◌==◌, ◌&&◌, ◌||◌, not, nat_eq, nat_le, Bool, List, ◌++◌, length, drop, replicate, codes, Option, Some, None, is_some, if◌then◌else◌}
use Rattle.std.specs.List.{list_all, slice_index_or}
use Rattle.std.specs.Cmp.Lexicographic.{pointwise}
use Rattle.std.specs.Char.{to_ascii_uppercase, is_ascii_alphabetic, is_ascii_alphanumeric}
use Rattle.std.specs.Map.{lookup}
use Rattle.asm_model.specs.declared.name.Name.{Name}
use Rattle.asm_model.specs.declared.name.Value.{Value}
use Rattle.asm_model.specs.Words.{word_is}
use Rattle.asm_model.specs.Numbers.{first_byte}
use Rattle.msp_encode.specs.declared.registers.TheConstants.{PC, SP, SR}

abbrev pub is_name_byte : ℕ → Bool
is_name_byte b = is_ascii_alphanumeric b || b == 95

-- a letter or `_`, then letters, digits and `_`, at most 32 bytes
unfoldable pub has_name_form : List ℕ → Bool
has_name_form word = nat_le (length word) 32 && (is_ascii_alphabetic (first_byte word) || first_byte word == 95) && list_all is_name_byte word

-- R0 to R9, and R10 to R15
unfoldable pub numbered_register : List ℕ → Option ℕ
numbered_register word =
    if not (to_ascii_uppercase (first_byte word) == 82) then None
    else if length word == 2 then (if nat_le 48 (slice_index_or word 1 0) && nat_le (slice_index_or word 1 0) 57 then Some (slice_index_or word 1 0 - 48) else None)
    else if length word == 3 then (if slice_index_or word 1 0 == 49 && (nat_le 48 (slice_index_or word 2 0) && nat_le (slice_index_or word 2 0) 53) then Some (slice_index_or word 2 0 - 38) else None)
    else None

-- the number of a register's name
unfoldable pub register_of : List ℕ → Option ℕ
register_of word = if word_is word (codes "PC") then Some PC else if word_is word (codes "SP") then Some SP else if word_is word (codes "SR") then Some SR else numbered_register word

abbrev pub is_lo : List ℕ → Bool
is_lo word = pointwise nat_eq word (codes "LO")

abbrev pub is_hi : List ℕ → Bool
is_hi word = pointwise nat_eq word (codes "HI")

-- a register's name, LO and HI are no labels
unfoldable pub is_reserved : List ℕ → Bool
is_reserved word = is_some (register_of word) || is_lo word || is_hi word

-- what can be a label
unfoldable pub is_label : List ℕ → Bool
is_label word = has_name_form word && not (is_reserved word)

-- a word of at most 32 bytes as a name
unfoldable pub name_of : List ℕ → Name
name_of word = record { bytes = word ++ drop (length word) (replicate 32 0) }

abbrev pub is_same_name : Name → Name → Bool
is_same_name a b = pointwise nat_eq a.bytes b.bytes

-- what a name stands for, among those defined
unfoldable pub value_of : List (Name × Value) → Name → Option Value
value_of names name = lookup (is_same_name name) names

-- a name that can't be defined: it is there, or reserved
unfoldable pub is_taken : List (Name × Value) → List ℕ → Bool
is_taken names word = is_reserved word || (has_name_form word && is_some (value_of names (name_of word)))

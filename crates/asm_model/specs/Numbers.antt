-- Numbers as written.
use Rattle.std.specs.Prelude.{ℕ, ◌-◌, ◌+◌, ◌*◌, ◌%◌, ◌==◌, ◌&&◌, ◌||◌, not, nat_le, min, Bool, true, false, List, [], ◌∷◌, length, drop, Option, Some, None, option_map, if◌then◌else◌}
use Rattle.std.specs.List.{list_all, slice_index_or}
use Rattle.std.specs.Char.{is_ascii_digit, is_ascii_hexdigit, digit_value}
use Rattle.asm_model.specs.declared.expression.Numeral.{Numeral}

-- the first byte, or 0 where there is none
abbrev pub first_byte : List ℕ → ℕ
first_byte bytes = slice_index_or bytes 0 0

-- the number of some digits behind a number, the highest first
abbrev pub number_from : ℕ → ℕ → List ℕ → ℕ
number_from base n [] = n
number_from base n (d ∷ ds) = number_from base (n * base + digit_value d) ds

-- the number of some digits
abbrev pub digits_value : ℕ → List ℕ → ℕ
digits_value base digits = number_from base 0 digits

-- all sizes from 65,536 on count as one
abbrev pub capped : ℕ → ℕ
capped n = min n 65536

-- one or more decimal digits without a leading zero
unfoldable pub is_decimal : List ℕ → Bool
is_decimal word = nat_le 1 (length word) && list_all is_ascii_digit word && (not (first_byte word == 48) || length word == 1)

-- `0x` and one or more hexadecimal digits
unfoldable pub is_hexadecimal : List ℕ → Bool
is_hexadecimal word = nat_le 3 (length word) && first_byte word == 48 && slice_index_or word 1 0 == 120 && list_all is_ascii_hexdigit (drop 2 word)

-- a number without sign
unfoldable pub size_of : List ℕ → Option ℕ
size_of word = if is_hexadecimal word then Some (capped (digits_value 16 (drop 2 word))) else if is_decimal word then Some (capped (digits_value 10 word)) else None

abbrev pub numeral_by : Bool → ℕ → Numeral
numeral_by negative size = record { negative = negative; size = size }

-- a number, which may have a sign
unfoldable pub numeral_of : List ℕ → Option Numeral
numeral_of word = if first_byte word == 45 then option_map (numeral_by true) (size_of (drop 1 word)) else option_map (numeral_by false) (size_of word)

-- from -32768 to 65535
unfoldable pub numeral_fits : Numeral → Bool
numeral_fits n = if n.negative then nat_le n.size 32768 else nat_le n.size 65535

-- its value modulo 65,536
unfoldable pub numeral_word : Numeral → ℕ
numeral_word n = if n.negative then (65536 - n.size) % 65536 else n.size % 65536

-- its value is from the one to the other
unfoldable pub is_between : ℕ → ℕ → Numeral → Bool
is_between least most n = (not n.negative || n.size == 0) && nat_le least n.size && nat_le n.size most

-- from -128 to 255
unfoldable pub byte_fits : Numeral → Bool
byte_fits n = if n.negative then nat_le n.size 128 else nat_le n.size 255

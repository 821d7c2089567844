-- Expressions.
use Rattle.std.specs.Prelude.{ℕ, ◌+◌, ◌%◌, ◌==◌, ◌||◌, nat_le, Bool, true, false, List, length, take, drop, Option, Some, None, option_map, if◌then◌else◌}
use Rattle.std.specs.List.{position_or_len, slice_index_or}
use Rattle.std.specs.Char.{is_ascii_digit}
use Rattle.asm_model.specs.declared.name.Name.{Name}
use Rattle.asm_model.specs.declared.name.Value.{Value}
use Rattle.asm_model.specs.declared.name.Value.TheVariants as value
use Rattle.asm_model.specs.declared.expression.Numeral.{Numeral}
use Rattle.asm_model.specs.declared.expression.Base.{Base}
use Rattle.asm_model.specs.declared.expression.Base.TheVariants as base
use Rattle.asm_model.specs.declared.expression.Expression.{Expression}
use Rattle.asm_model.specs.Numbers.{first_byte, size_of, numeral_by, numeral_of, numeral_fits, numeral_word}
use Rattle.asm_model.specs.Names.{is_lo, is_hi, is_label, name_of, value_of}

-- a number that stands alone
unfoldable pub number_alone : Numeral → Expression
number_alone n = record { base = base.Number; word = numeral_word n; fits = numeral_fits n }

-- a base and a word on it, with a number added, whose size is at most 65,535 behind either sign
unfoldable pub added : Base → ℕ → Numeral → Expression
added base word n = record { base = base; word = (word + numeral_word n) % 65536; fits = nat_le n.size 65535 }

-- a name given by `.equ` counts as its number, any other is a label
abbrev pub named : Name → Option Value → Numeral → Expression
named name None n = added (base.Label name) 0 n
named name (Some (value.Number k)) n = added base.Number k n
named name (Some (value.Code at)) n = added (base.Label name) 0 n
named name (Some (value.Initialised at)) n = added (base.Label name) 0 n
named name (Some (value.Zeroed at)) n = added (base.Label name) 0 n

-- a name with a number added
unfoldable pub name_plus : List (Name × Value) → List ℕ → Numeral → Option Expression
name_plus names word n =
    if is_lo word then Some (added base.Lo 0 n)
    else if is_hi word then Some (added base.Hi 0 n)
    else if is_label word then Some (named (name_of word) (value_of names (name_of word)) n)
    else None

abbrev pub is_sign : ℕ → Bool
is_sign b = b == 43 || b == 45

-- a number behind a sign has none of its own
abbrev pub signed : ℕ → Option ℕ → Option Numeral
signed sign size = option_map (numeral_by (sign == 45)) size

-- with a name and a number, or none where there is no number
abbrev pub with_numeral : List (Name × Value) → List ℕ → Option Numeral → Option Expression
with_numeral names word None = None
with_numeral names word (Some n) = name_plus names word n

-- a name, a name `+` number or a name `-` number
unfoldable pub over_name : List (Name × Value) → List ℕ → Option Expression
over_name names word =
    let at = position_or_len is_sign word in
    if at == length word then name_plus names word (numeral_by false 0)
    else with_numeral names (take at word) (signed (slice_index_or word at 0) (size_of (drop (at + 1) word)))

-- a number, or an expression over a name
unfoldable pub expression_of : List (Name × Value) → List ℕ → Option Expression
expression_of names word =
    if is_ascii_digit (first_byte word) || first_byte word == 45 then option_map number_alone (numeral_of word)
    else over_name names word

-- a number or a label: LO and HI stand in immediates alone
abbrev pub is_plain : Base → Bool
is_plain base.Number = true
is_plain base.Lo = false
is_plain base.Hi = false
is_plain (base.Label name) = true

abbrev pub is_over_label : Base → Bool
is_over_label base.Number = false
is_over_label base.Lo = false
is_over_label base.Hi = false
is_over_label (base.Label name) = true

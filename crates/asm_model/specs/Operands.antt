-- Operands as written.
use Rattle.std.specs.Prelude.{ℕ, ◌-◌, ◌+◌, ◌==◌, Bool, true, false, List, length, take, drop, Option, Some, None, option_map, if◌then◌else◌}
use Rattle.std.specs.List.{list_any, position_or_len}
use Rattle.asm_model.specs.declared.name.Name.{Name}
use Rattle.asm_model.specs.declared.name.Value.{Value}
use Rattle.asm_model.specs.declared.expression.Expression.{Expression}
use Rattle.asm_model.specs.declared.operand.Operand.{Operand}
use Rattle.asm_model.specs.declared.operand.Operand.TheVariants as operand
use Rattle.asm_model.specs.Lines.{last_byte}
use Rattle.asm_model.specs.Numbers.{first_byte}
use Rattle.asm_model.specs.Names.{register_of}
use Rattle.asm_model.specs.Expressions.{expression_of, is_plain, is_over_label}

abbrev pub is_minus : ℕ → Bool
is_minus b = b == 45

abbrev pub is_open : ℕ → Bool
is_open b = b == 40

-- an expression that is kept where it passes the test
abbrev pub kept : Bool → Expression → Option Expression
kept true e = Some e
kept false e = None

-- a number, or an expression over a label
abbrev pub plain_only : Option Expression → Option Expression
plain_only None = None
plain_only (Some e) = kept (is_plain e.base) e

abbrev pub label_only : Option Expression → Option Expression
label_only None = None
label_only (Some e) = kept (is_over_label e.base) e

-- a number or a label of static data
unfoldable pub address_of : List (Name × Value) → List ℕ → Option Expression
address_of names word = plain_only (expression_of names word)

-- `name` or `name+n`
unfoldable pub distance_of : List (Name × Value) → List ℕ → Option Expression
distance_of names word = if list_any is_minus word then None else label_only (expression_of names word)

-- `##expr` or `#expr`, behind the first `#`
unfoldable pub hash_operand : List (Name × Value) → List ℕ → Option Operand
hash_operand names word =
    if first_byte word == 35 then option_map operand.Immediate (expression_of names (drop 1 word))
    else option_map operand.Value (expression_of names word)

-- `@Rn` or `@Rn+`, behind the `@`
unfoldable pub at_operand : List ℕ → Option Operand
at_operand word =
    if last_byte word == 43 then option_map operand.AutoInc (register_of (take (length word - 1) word))
    else option_map operand.Indirect (register_of word)

abbrev pub indexed : Option Expression → Option ℕ → Option Operand
indexed None register = None
indexed (Some x) None = None
indexed (Some x) (Some register) = Some (operand.Indexed register x)

-- `X(Rn)`, before the last `)`
unfoldable pub indexed_operand : List (Name × Value) → List ℕ → Option Operand
indexed_operand names word =
    let at = position_or_len is_open word in
    indexed (address_of names (take at word)) (register_of (drop (at + 1) word))

-- an operand that begins with none of `#`, `&` and `@`
unfoldable pub plain_operand : List (Name × Value) → Option ℕ → List ℕ → Option Operand
plain_operand names (Some register) word = Some (operand.Reg register)
plain_operand names None word =
    if last_byte word == 41 then indexed_operand names (take (length word - 1) word)
    else option_map operand.Symbolic (distance_of names word)

-- the operand that a word is
unfoldable pub operand_of : List (Name × Value) → List ℕ → Option Operand
operand_of names word =
    if first_byte word == 35 then hash_operand names (drop 1 word)
    else if first_byte word == 38 then option_map operand.Absolute (address_of names (drop 1 word))
    else if first_byte word == 64 then at_operand (drop 1 word)
    else plain_operand names (register_of word) word

-- What an instruction's operands give.
use Rattle.std.specs.Prelude.{ℕ, ◌==◌, ◌&&◌, not, Bool, true, false, List, [], ◌∷◌, Option, Some, None, Result, Ok, Err, if◌then◌else◌}
use Rattle.msp_encode.specs.declared.registers.TheConstants.{PC, SP}
use Rattle.msp_encode.specs.declared.instr.Op2.{Op2}
use Rattle.msp_encode.specs.declared.instr.Op2.TheVariants as op2
use Rattle.msp_encode.specs.declared.instr.Op1.{Op1}
use Rattle.msp_encode.specs.declared.instr.Cond.{Cond}
use Rattle.msp_encode.specs.declared.instr.Width.{Width}
use Rattle.msp_encode.specs.declared.instr.Cg.{Cg}
use Rattle.msp_encode.specs.declared.instr.Cg.TheVariants as cg
use Rattle.msp_encode.specs.declared.instr.Src.{Src}
use Rattle.msp_encode.specs.declared.instr.Src.TheVariants as src
use Rattle.msp_encode.specs.declared.instr.Dst.{Dst}
use Rattle.msp_encode.specs.declared.instr.Dst.TheVariants as dst
use Rattle.msp_encode.specs.declared.instr.Instr.{Instr}
use Rattle.msp_encode.specs.declared.instr.Instr.TheVariants as instr
use Rattle.msp_encode.specs.Legality.{src_fits, dst_fits, takes_width, takes_constant, takes}
use Rattle.asm_model.specs.declared.fault.AsmKind.{AsmKind}
use Rattle.asm_model.specs.declared.fault.AsmKind.TheVariants.{BadOperand, NumberRange}
use Rattle.asm_model.specs.declared.name.Name.{Name}
use Rattle.asm_model.specs.declared.name.Value.{Value}
use Rattle.asm_model.specs.declared.name.Value.TheVariants as value
use Rattle.asm_model.specs.declared.expression.Base.{Base}
use Rattle.asm_model.specs.declared.expression.Base.TheVariants as base
use Rattle.asm_model.specs.declared.expression.Expression.{Expression}
use Rattle.asm_model.specs.declared.operand.Operand.{Operand}
use Rattle.asm_model.specs.declared.operand.Operand.TheVariants as operand
use Rattle.asm_model.specs.declared.operand.Source.{Source}
use Rattle.asm_model.specs.declared.operand.Destination.{Destination}
use Rattle.asm_model.specs.declared.mnemonic.MnemonicForm.{MnemonicForm}
use Rattle.asm_model.specs.declared.mnemonic.MnemonicForm.TheVariants as form
use Rattle.asm_model.specs.declared.piece.Piece.{Piece}
use Rattle.asm_model.specs.declared.piece.Piece.TheVariants as piece
use Rattle.asm_model.specs.Names.{is_label, name_of, value_of}
use Rattle.asm_model.specs.Operands.{operand_of}

-- ---- operands as parts of an instruction

-- the constant that the generator has for a number
unfoldable pub generated : ℕ → Option Cg
generated n =
    if n == 0 then Some cg.Zero
    else if n == 1 then Some cg.One
    else if n == 2 then Some cg.Two
    else if n == 4 then Some cg.Four
    else if n == 8 then Some cg.Eight
    else if n == 65535 then Some cg.AllOnes
    else None

abbrev pub source_by : Src → Base → Bool → Source
source_by source under fits = record { src = source; base = under; fits = fits }

abbrev pub immediate : Expression → Source
immediate e = source_by (src.Immediate e.word) e.base e.fits

abbrev pub constant_or_immediate : Option Cg → Expression → Source
constant_or_immediate None e = immediate e
constant_or_immediate (Some constant) e = source_by (src.Const constant) base.Number e.fits

-- a number is a constant where the generator has it and the instruction takes constants
abbrev pub value_source : Bool → Base → Expression → Source
value_source true base.Number e = constant_or_immediate (generated e.word) e
value_source true base.Lo e = immediate e
value_source true base.Hi e = immediate e
value_source true (base.Label name) e = immediate e
value_source false under e = immediate e

abbrev pub source_of : Bool → Operand → Source
source_of constants (operand.Reg r) = source_by (src.Reg r) base.Number true
source_of constants (operand.Indexed r e) = source_by (src.Indexed r e.word) e.base e.fits
source_of constants (operand.Symbolic e) = source_by (src.Symbolic e.word) e.base e.fits
source_of constants (operand.Absolute e) = source_by (src.Absolute e.word) e.base e.fits
source_of constants (operand.Indirect r) = source_by (src.Indirect r) base.Number true
source_of constants (operand.AutoInc r) = source_by (src.AutoInc r) base.Number true
source_of constants (operand.Value e) = value_source constants e.base e
source_of constants (operand.Immediate e) = immediate e

abbrev pub destination_by : Dst → Base → Bool → Option Destination
destination_by destination under fits = Some (record { dst = destination; base = under; fits = fits })

abbrev pub destination_of : Operand → Option Destination
destination_of (operand.Reg r) = destination_by (dst.Reg r) base.Number true
destination_of (operand.Indexed r e) = destination_by (dst.Indexed r e.word) e.base e.fits
destination_of (operand.Symbolic e) = destination_by (dst.Symbolic e.word) e.base e.fits
destination_of (operand.Absolute e) = destination_by (dst.Absolute e.word) e.base e.fits
destination_of (operand.Indirect r) = None
destination_of (operand.AutoInc r) = None
destination_of (operand.Value e) = None
destination_of (operand.Immediate e) = None

-- ---- which instructions have a spelling

-- `Legal` of the spelling as a test, but for jumps, whose offset the second pass knows
abbrev pub is_legal : Instr → Bool
is_legal (instr.Two op width source destination) = src_fits source && dst_fits destination
is_legal (instr.One op width source) = src_fits source && takes_width op width && takes op source
is_legal instr.Reti = true
is_legal (instr.Jump condition offset) = false

-- ---- instructions

-- a legal instruction whose numbers are in their ranges
unfoldable pub operation : Instr → Base → Base → Bool → Result Piece AsmKind
operation i source destination fits =
    if not (is_legal i) then Err BadOperand
    else if not fits then Err NumberRange
    else Ok (piece.Operation i source destination)

abbrev pub two_piece : Op2 → Width → Source → Option Destination → Result Piece AsmKind
two_piece op width s None = Err BadOperand
two_piece op width s (Some d) = operation (instr.Two op width s.src d.dst) s.base d.base (s.fits && d.fits)

abbrev pub one_piece : Op1 → Width → Source → Result Piece AsmKind
one_piece op width s = operation (instr.One op width s.src) s.base base.Number s.fits

abbrev pub constant_source : Cg → Source
constant_source constant = source_by (src.Const constant) base.Number true

-- PC as destination
abbrev pub program_counter : Option Destination
program_counter = destination_by (dst.Reg PC) base.Number true

-- what the stack's top is popped from
abbrev pub popped : Source
popped = source_by (src.AutoInc SP) base.Number true

-- a name given by `.equ` is no label
abbrev pub names_place : Option Value → Bool
names_place None = true
names_place (Some (value.Number k)) = false
names_place (Some (value.Code at)) = true
names_place (Some (value.Initialised at)) = true
names_place (Some (value.Zeroed at)) = true

-- a label's name that isn't one of a number
unfoldable pub label_of : List (Name × Value) → List ℕ → Option Name
label_of names word = if is_label word && names_place (value_of names (name_of word)) then Some (name_of word) else None

abbrev pub jump_piece : Cond → Option Name → Result Piece AsmKind
jump_piece condition None = Err BadOperand
jump_piece condition (Some name) = Ok (piece.Jump condition name)

-- of one operand as written, or none
abbrev pub single_piece : MnemonicForm → Width → Option Operand → Result Piece AsmKind
single_piece f width None = Err BadOperand
single_piece (form.One op) width (Some o) = one_piece op width (source_of (takes_constant op) o)
single_piece (form.Constant op constant) width (Some o) = two_piece op width (constant_source constant) (destination_of o)
single_piece (form.Twice op) width (Some o) = two_piece op width (source_of false o) (destination_of o)
single_piece form.Pop width (Some o) = two_piece op2.Mov width popped (destination_of o)
single_piece form.Branch width (Some o) = two_piece op2.Mov width (source_of false o) program_counter
single_piece (form.Two op) width (Some o) = Err BadOperand
single_piece (form.Jump condition) width (Some o) = Err BadOperand
single_piece (form.Alone i) width (Some o) = Err BadOperand

abbrev pub double_piece : Op2 → Width → Option Operand → Option Operand → Result Piece AsmKind
double_piece op width None second = Err BadOperand
double_piece op width (Some a) None = Err BadOperand
double_piece op width (Some a) (Some b) = two_piece op width (source_of true a) (destination_of b)

-- no operand
abbrev pub piece_of_none : MnemonicForm → Result Piece AsmKind
piece_of_none (form.Alone i) = operation i base.Number base.Number true
piece_of_none (form.Two op) = Err BadOperand
piece_of_none (form.One op) = Err BadOperand
piece_of_none (form.Jump condition) = Err BadOperand
piece_of_none (form.Constant op constant) = Err BadOperand
piece_of_none (form.Twice op) = Err BadOperand
piece_of_none form.Pop = Err BadOperand
piece_of_none form.Branch = Err BadOperand

-- one operand: a jump's is a label's name
abbrev pub piece_of_one : List (Name × Value) → MnemonicForm → Width → List ℕ → Result Piece AsmKind
piece_of_one names (form.Jump condition) width word = jump_piece condition (label_of names word)
piece_of_one names (form.Two op) width word = Err BadOperand
piece_of_one names (form.One op) width word = single_piece (form.One op) width (operand_of names word)
piece_of_one names (form.Constant op constant) width word = single_piece (form.Constant op constant) width (operand_of names word)
piece_of_one names (form.Twice op) width word = single_piece (form.Twice op) width (operand_of names word)
piece_of_one names form.Pop width word = single_piece form.Pop width (operand_of names word)
piece_of_one names form.Branch width word = single_piece form.Branch width (operand_of names word)
piece_of_one names (form.Alone i) width word = Err BadOperand

-- two operands
abbrev pub piece_of_two : List (Name × Value) → MnemonicForm → Width → List ℕ → List ℕ → Result Piece AsmKind
piece_of_two names (form.Two op) width a b = double_piece op width (operand_of names a) (operand_of names b)
piece_of_two names (form.One op) width a b = Err BadOperand
piece_of_two names (form.Jump condition) width a b = Err BadOperand
piece_of_two names (form.Constant op constant) width a b = Err BadOperand
piece_of_two names (form.Twice op) width a b = Err BadOperand
piece_of_two names form.Pop width a b = Err BadOperand
piece_of_two names form.Branch width a b = Err BadOperand
piece_of_two names (form.Alone i) width a b = Err BadOperand

-- the instruction of a mnemonic with these operands
unfoldable pub instruction_of : List (Name × Value) → MnemonicForm → Width → List (List ℕ) → Result Piece AsmKind
instruction_of names f width [] = piece_of_none f
instruction_of names f width (a ∷ []) = piece_of_one names f width a
instruction_of names f width (a ∷ b ∷ []) = piece_of_two names f width a b
instruction_of names f width (a ∷ b ∷ c ∷ more) = Err BadOperand

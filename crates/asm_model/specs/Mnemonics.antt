-- The first word of a statement: mnemonics with their widths, and directives.
use Rattle.std.specs.Prelude.{ℕ, ◌-◌, Bool, true, false, List, length, take, drop, codes, Option, Some, None, option_map, if◌then◌else◌}
use Rattle.msp_encode.specs.declared.registers.TheConstants.{CONSTANTS, PC, SP, SR}
use Rattle.msp_encode.specs.declared.instr.Op2.{Op2}
use Rattle.msp_encode.specs.declared.instr.Op2.TheVariants as op2
use Rattle.msp_encode.specs.declared.instr.Op1.{Op1}
use Rattle.msp_encode.specs.declared.instr.Op1.TheVariants as op1
use Rattle.msp_encode.specs.declared.instr.Cond.{Cond}
use Rattle.msp_encode.specs.declared.instr.Cond.TheVariants as cond
use Rattle.msp_encode.specs.declared.instr.Width.{Width}
use Rattle.msp_encode.specs.declared.instr.Width.TheVariants.{Wide, Byte}
use Rattle.msp_encode.specs.declared.instr.Cg.TheVariants as cg
use Rattle.msp_encode.specs.declared.instr.Src.{Src}
use Rattle.msp_encode.specs.declared.instr.Src.TheVariants as src
use Rattle.msp_encode.specs.declared.instr.Dst.TheVariants as dst
use Rattle.msp_encode.specs.declared.instr.Instr.TheVariants as instr
use Rattle.asm_model.specs.declared.mnemonic.MnemonicForm.{MnemonicForm}
use Rattle.asm_model.specs.declared.mnemonic.MnemonicForm.TheVariants as form
use Rattle.asm_model.specs.declared.mnemonic.Directive.{Directive}
use Rattle.asm_model.specs.declared.mnemonic.Directive.TheVariants as directive
use Rattle.asm_model.specs.declared.mnemonic.Keyword.{Keyword}
use Rattle.asm_model.specs.declared.mnemonic.Keyword.TheVariants as keyword
use Rattle.asm_model.specs.Words.{word_is}

-- the one of two answers that is there
abbrev pub or_else : {X : Type 0} → Option X → Option X → Option X
or_else None other = other
or_else (Some x) other = Some x

-- operations of two operands
unfoldable pub two_of : List ℕ → Option Op2
two_of w =
    if word_is w (codes "MOV") then Some op2.Mov
    else if word_is w (codes "ADD") then Some op2.Add
    else if word_is w (codes "ADDC") then Some op2.Addc
    else if word_is w (codes "SUBC") then Some op2.Subc
    else if word_is w (codes "SUB") then Some op2.Sub
    else if word_is w (codes "CMP") then Some op2.Cmp
    else if word_is w (codes "DADD") then Some op2.Dadd
    else if word_is w (codes "BIT") then Some op2.Bit
    else if word_is w (codes "BIC") then Some op2.Bic
    else if word_is w (codes "BIS") then Some op2.Bis
    else if word_is w (codes "XOR") then Some op2.Xor
    else if word_is w (codes "AND") then Some op2.And
    else None

-- operations of one operand
unfoldable pub one_of : List ℕ → Option Op1
one_of w =
    if word_is w (codes "RRC") then Some op1.Rrc
    else if word_is w (codes "SWPB") then Some op1.Swpb
    else if word_is w (codes "RRA") then Some op1.Rra
    else if word_is w (codes "SXT") then Some op1.Sxt
    else if word_is w (codes "PUSH") then Some op1.Push
    else if word_is w (codes "CALL") then Some op1.Call
    else None

-- jumps
unfoldable pub condition_of : List ℕ → Option Cond
condition_of w =
    if word_is w (codes "JNE") then Some cond.Ne
    else if word_is w (codes "JNZ") then Some cond.Ne
    else if word_is w (codes "JEQ") then Some cond.Eq
    else if word_is w (codes "JZ") then Some cond.Eq
    else if word_is w (codes "JNC") then Some cond.Nc
    else if word_is w (codes "JLO") then Some cond.Nc
    else if word_is w (codes "JC") then Some cond.C
    else if word_is w (codes "JHS") then Some cond.C
    else if word_is w (codes "JN") then Some cond.N
    else if word_is w (codes "JGE") then Some cond.Ge
    else if word_is w (codes "JL") then Some cond.L
    else if word_is w (codes "JMP") then Some cond.Always
    else None

-- emulated operations of a destination
unfoldable pub constant_of : List ℕ → Option MnemonicForm
constant_of w =
    if word_is w (codes "ADC") then Some (form.Constant op2.Addc cg.Zero)
    else if word_is w (codes "CLR") then Some (form.Constant op2.Mov cg.Zero)
    else if word_is w (codes "DADC") then Some (form.Constant op2.Dadd cg.Zero)
    else if word_is w (codes "DEC") then Some (form.Constant op2.Sub cg.One)
    else if word_is w (codes "DECD") then Some (form.Constant op2.Sub cg.Two)
    else if word_is w (codes "INC") then Some (form.Constant op2.Add cg.One)
    else if word_is w (codes "INCD") then Some (form.Constant op2.Add cg.Two)
    else if word_is w (codes "INV") then Some (form.Constant op2.Xor cg.AllOnes)
    else if word_is w (codes "SBC") then Some (form.Constant op2.Subc cg.Zero)
    else if word_is w (codes "TST") then Some (form.Constant op2.Cmp cg.Zero)
    else None

-- emulated operations whose operand is written once
unfoldable pub single_of : List ℕ → Option MnemonicForm
single_of w =
    if word_is w (codes "RLA") then Some (form.Twice op2.Add)
    else if word_is w (codes "RLC") then Some (form.Twice op2.Addc)
    else if word_is w (codes "POP") then Some form.Pop
    else if word_is w (codes "BR") then Some form.Branch
    else None

-- a constant on words into a register
abbrev pub alone_on : Op2 → Src → ℕ → Option MnemonicForm
alone_on op source register = Some (form.Alone (instr.Two op Wide source (dst.Reg register)))

-- instructions without operand
unfoldable pub alone_of : List ℕ → Option MnemonicForm
alone_of w =
    if word_is w (codes "RETI") then Some (form.Alone instr.Reti)
    else if word_is w (codes "NOP") then alone_on op2.Mov (src.Const cg.Zero) CONSTANTS
    else if word_is w (codes "RET") then alone_on op2.Mov (src.AutoInc SP) PC
    else if word_is w (codes "CLRC") then alone_on op2.Bic (src.Const cg.One) SR
    else if word_is w (codes "CLRN") then alone_on op2.Bic (src.Const cg.Four) SR
    else if word_is w (codes "CLRZ") then alone_on op2.Bic (src.Const cg.Two) SR
    else if word_is w (codes "DINT") then alone_on op2.Bic (src.Const cg.Eight) SR
    else if word_is w (codes "SETC") then alone_on op2.Bis (src.Const cg.One) SR
    else if word_is w (codes "SETN") then alone_on op2.Bis (src.Const cg.Four) SR
    else if word_is w (codes "SETZ") then alone_on op2.Bis (src.Const cg.Two) SR
    else if word_is w (codes "EINT") then alone_on op2.Bis (src.Const cg.Eight) SR
    else None

-- the form of a mnemonic without its width
unfoldable pub form_of : List ℕ → Option MnemonicForm
form_of w = or_else (option_map form.Two (two_of w)) (or_else (option_map form.One (one_of w)) (or_else (option_map form.Jump (condition_of w)) (or_else (constant_of w) (or_else (single_of w) (alone_of w)))))

-- SWPB, SXT and CALL have no byte form
abbrev pub one_takes_bytes : Op1 → Bool
one_takes_bytes op1.Rrc = true
one_takes_bytes op1.Swpb = false
one_takes_bytes op1.Rra = true
one_takes_bytes op1.Sxt = false
one_takes_bytes op1.Push = true
one_takes_bytes op1.Call = false

-- `.B` may be written
abbrev pub takes_bytes : MnemonicForm → Bool
takes_bytes (form.Two op) = true
takes_bytes (form.One op) = one_takes_bytes op
takes_bytes (form.Jump condition) = false
takes_bytes (form.Constant op constant) = true
takes_bytes (form.Twice op) = true
takes_bytes form.Pop = true
takes_bytes form.Branch = false
takes_bytes (form.Alone i) = false

-- `.W` may be written
abbrev pub takes_words : MnemonicForm → Bool
takes_words (form.Two op) = true
takes_words (form.One op) = true
takes_words (form.Jump condition) = false
takes_words (form.Constant op constant) = true
takes_words (form.Twice op) = true
takes_words form.Pop = true
takes_words form.Branch = false
takes_words (form.Alone i) = false

-- a form where it takes what was written
abbrev pub where_taken : (MnemonicForm → Bool) → Width → Option MnemonicForm → Option Keyword
where_taken takes width None = None
where_taken takes width (Some f) = if takes f then Some (keyword.Mnemonic f width) else None

abbrev pub without_width : Option MnemonicForm → Option Keyword
without_width None = None
without_width (Some f) = Some (keyword.Mnemonic f Wide)

-- the word without its last two bytes, and these
abbrev pub stem : List ℕ → List ℕ
stem word = take (length word - 2) word

abbrev pub suffix : List ℕ → List ℕ
suffix word = drop (length word - 2) word

-- a mnemonic, with `.B`, `.W` or neither behind it
unfoldable pub mnemonic_of : List ℕ → Option Keyword
mnemonic_of word =
    if word_is (suffix word) (codes ".B") then where_taken takes_bytes Byte (form_of (stem word))
    else if word_is (suffix word) (codes ".W") then where_taken takes_words Wide (form_of (stem word))
    else without_width (form_of word)

-- a directive
unfoldable pub directive_of : List ℕ → Option Directive
directive_of w =
    if word_is w (codes ".APP") then Some directive.App
    else if word_is w (codes ".MODULE") then Some directive.Module
    else if word_is w (codes ".VERSION") then Some directive.Version
    else if word_is w (codes ".EQU") then Some directive.Equ
    else if word_is w (codes ".ENTRY") then Some directive.Entry
    else if word_is w (codes ".EXPORT") then Some directive.Export
    else if word_is w (codes ".CODE") then Some directive.Code
    else if word_is w (codes ".DATA") then Some directive.Data
    else if word_is w (codes ".ZERO") then Some directive.Zero
    else if word_is w (codes ".WORD") then Some directive.Word
    else if word_is w (codes ".BYTE") then Some directive.Byte
    else if word_is w (codes ".SPACE") then Some directive.Space
    else None

-- the first word of a statement
unfoldable pub keyword_of : List ℕ → Option Keyword
keyword_of word = or_else (option_map keyword.Directive (directive_of word)) (mnemonic_of word)

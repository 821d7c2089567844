-- Forms of instructions: what their operations and operands do.
use Rattle.std.specs.Prelude.{◌≡◌, ℕ, ◌==◌, Bool, true, false, not, T}
use Rattle.msp_encode.specs.declared.instr.Op2.{Op2}
use Rattle.msp_encode.specs.declared.instr.Op2.TheVariants.{Mov, Cmp, Bit, Bic, Bis}
use Rattle.msp_encode.specs.declared.instr.Op1.{Op1}
use Rattle.msp_encode.specs.declared.instr.Op1.TheVariants.{Push, Call}
use Rattle.msp_encode.specs.declared.instr.Cond.{Cond}
use Rattle.msp_encode.specs.declared.instr.Cond.TheVariants.{Always}
use Rattle.msp_encode.specs.declared.instr.Width.{Width}
use Rattle.msp_encode.specs.declared.instr.Width.TheVariants.{Wide, Byte}
use Rattle.msp_encode.specs.declared.instr.Cg.{Cg}
use Rattle.msp_encode.specs.declared.instr.Cg.TheVariants.{Zero, One, Two, Four, Eight, AllOnes}
use Rattle.msp_encode.specs.declared.instr.Src.{Src}
use Rattle.msp_encode.specs.declared.instr.Src.TheVariants as src
use Rattle.msp_encode.specs.declared.instr.Dst.{Dst}
use Rattle.msp_encode.specs.declared.instr.Dst.TheVariants as dst
use Rattle.msp_encode.specs.declared.instr.Instr.{Instr}
use Rattle.msp_encode.specs.declared.instr.Instr.TheVariants as instr

-- ---- operations

-- CMP and BIT write no destination
abbrev pub writes : Op2 → Bool
writes Cmp = false
writes Bit = false
writes _ = true

abbrev pub Writes : Op2 → Type 0
Writes op = T (writes op)

-- CMP and BIT
abbrev pub Tests : Op2 → Type 0
Tests op = T (not (writes op))

abbrev pub IsMov : Op2 → Type 0
IsMov Mov = Unit {0}
IsMov _ = ⊥

abbrev pub IsBisOrBic : Op2 → Type 0
IsBisOrBic Bic = Unit {0}
IsBisOrBic Bis = Unit {0}
IsBisOrBic _ = ⊥

-- RRC, RRA, SWPB and SXT write their operand
abbrev pub changes : Op1 → Bool
changes Push = false
changes Call = false
changes _ = true

abbrev pub Changes : Op1 → Type 0
Changes op = T (changes op)

-- PUSH and CALL
abbrev pub Stacks : Op1 → Type 0
Stacks op = T (not (changes op))

abbrev pub IsCall : Op1 → Type 0
IsCall Call = Unit {0}
IsCall _ = ⊥

abbrev pub IsAlways : Cond → Type 0
IsAlways Always = Unit {0}
IsAlways _ = ⊥

abbrev pub IsWide : Width → Type 0
IsWide Wide = Unit {0}
IsWide Byte = ⊥

-- the value of a generated constant
abbrev pub const_value : Cg → ℕ
const_value Zero = 0
const_value One = 1
const_value Two = 2
const_value Four = 4
const_value Eight = 8
const_value AllOnes = 0xFFFF

-- ---- operands

-- an operand that is this register, as a test and as a fact
abbrev pub is_src : Src → ℕ → Bool
is_src (src.Reg n) r = n == r
is_src _ r = false

abbrev pub SrcIs : Src → ℕ → Type 0
SrcIs (src.Reg n) r = n ≡ r
SrcIs _ r = ⊥

abbrev pub is_dst : Dst → ℕ → Bool
is_dst (dst.Reg n) r = n == r
is_dst _ r = false

abbrev pub DstIs : Dst → ℕ → Type 0
DstIs (dst.Reg n) r = n ≡ r
DstIs _ r = ⊥

-- the source is @Rn+ of this register
abbrev pub pops : Src → ℕ → Bool
pops (src.AutoInc n) r = n == r
pops _ r = false

abbrev pub Pops : Src → ℕ → Type 0
Pops (src.AutoInc n) r = n ≡ r
Pops _ r = ⊥

abbrev pub is_immediate : Src → Bool
is_immediate (src.Immediate x) = true
is_immediate _ = false

abbrev pub IsImmediate : Src → Type 0
IsImmediate (src.Immediate x) = Unit {0}
IsImmediate _ = ⊥

-- ---- instructions

abbrev pub IsReti : Instr → Type 0
IsReti instr.Reti = Unit {0}
IsReti _ = ⊥

abbrev pub IsJmp : Instr → Type 0
IsJmp (instr.Jump c k) = IsAlways c
IsJmp _ = ⊥

-- a register is written by an operation's destination
abbrev pub WritesReg : Instr → ℕ → Type 0
WritesReg (instr.Two op w s d) r = Writes op × DstIs d r
WritesReg (instr.One op w s) r = Changes op × SrcIs s r
WritesReg _ r = ⊥

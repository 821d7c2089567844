-- How instructions are spelled in words (SLAU049, CPU chapter, the instruction formats and the constant generator).
use Rattle.std.specs.Prelude.{◌≡◌, ◌≢◌, ℕ, ◌+◌, ◌/◌, ◌%◌, ◌<◌, List, [], ◌∷◌, ◌++◌, ℤ, pos, negsuc, ◌+ℤ◌, ◌≤ℤ◌, ◌<ℤ◌}
use Rattle.msp_encode.specs.declared.instr.Op2.{Op2}
use Rattle.msp_encode.specs.declared.instr.Op2.TheVariants.{Mov, Add, Addc, Subc, Sub, Cmp, Dadd, Bit, Bic, Bis, Xor, And}
use Rattle.msp_encode.specs.declared.instr.Op1.{Op1}
use Rattle.msp_encode.specs.declared.instr.Op1.TheVariants.{Rrc, Swpb, Rra, Sxt, Push, Call}
use Rattle.msp_encode.specs.declared.instr.Cond.{Cond}
use Rattle.msp_encode.specs.declared.instr.Cond.TheVariants.{Ne, Eq, Nc, C, N, Ge, L, Always}
use Rattle.msp_encode.specs.declared.instr.Width.{Width}
use Rattle.msp_encode.specs.declared.instr.Width.TheVariants.{Wide, Byte}
use Rattle.msp_encode.specs.declared.instr.Cg.{Cg}
use Rattle.msp_encode.specs.declared.instr.Cg.TheVariants.{Zero, One, Two, Four, Eight, AllOnes}
use Rattle.msp_encode.specs.declared.instr.Src.{Src}
use Rattle.msp_encode.specs.declared.instr.Src.TheVariants as src
use Rattle.msp_encode.specs.declared.instr.Dst.{Dst}
use Rattle.msp_encode.specs.declared.instr.Dst.TheVariants as dst
use Rattle.msp_encode.specs.declared.instr.Instr.{Instr}
use Rattle.msp_encode.specs.declared.instr.Instr.TheVariants as instr

abbrev pub op2_code : Op2 → ℕ
op2_code Mov = 4
op2_code Add = 5
op2_code Addc = 6
op2_code Subc = 7
op2_code Sub = 8
op2_code Cmp = 9
op2_code Dadd = 10
op2_code Bit = 11
op2_code Bic = 12
op2_code Bis = 13
op2_code Xor = 14
op2_code And = 15

abbrev pub op1_code : Op1 → ℕ
op1_code Rrc = 0
op1_code Swpb = 1
op1_code Rra = 2
op1_code Sxt = 3
op1_code Push = 4
op1_code Call = 5

abbrev pub cond_code : Cond → ℕ
cond_code Ne = 0
cond_code Eq = 1
cond_code Nc = 2
cond_code C = 3
cond_code N = 4
cond_code Ge = 5
cond_code L = 6
cond_code Always = 7

abbrev pub width_code : Width → ℕ
width_code Wide = 0
width_code Byte = 1

-- the registers that an address can be made of: SP and 4 to 15
abbrev pub IsBase : ℕ → Type 0
IsBase r = (r ≢ 0) × (r ≢ 2) × (r ≢ 3)

-- the constant generator's registers and modes
abbrev pub ConstRow : Cg → (register mode : ℕ) → Type 0
ConstRow Zero r m = (r ≡ 3) × (m ≡ 0)
ConstRow One r m = (r ≡ 3) × (m ≡ 1)
ConstRow Two r m = (r ≡ 3) × (m ≡ 2)
ConstRow Four r m = (r ≡ 2) × (m ≡ 2)
ConstRow Eight r m = (r ≡ 2) × (m ≡ 3)
ConstRow AllOnes r m = (r ≡ 3) × (m ≡ 3)

-- the register field and the mode bits of a source
abbrev pub SrcRow : Src → (register mode : ℕ) → Type 0
SrcRow (src.Reg n) r m = (r ≡ n) × (m ≡ 0) × (n ≢ 3)
SrcRow (src.Indexed n x) r m = (r ≡ n) × (m ≡ 1) × IsBase n
SrcRow (src.Symbolic x) r m = (r ≡ 0) × (m ≡ 1)
SrcRow (src.Absolute x) r m = (r ≡ 2) × (m ≡ 1)
SrcRow (src.Indirect n) r m = (r ≡ n) × (m ≡ 2) × IsBase n
SrcRow (src.AutoInc n) r m = (r ≡ n) × (m ≡ 3) × IsBase n
SrcRow (src.Immediate x) r m = (r ≡ 0) × (m ≡ 3)
SrcRow (src.Const c) r m = ConstRow c r m

-- the register field and the mode bit of a destination
abbrev pub DstRow : Dst → (register mode : ℕ) → Type 0
DstRow (dst.Reg n) r m = (r ≡ n) × (m ≡ 0)
DstRow (dst.Indexed n x) r m = (r ≡ n) × (m ≡ 1) × IsBase n
DstRow (dst.Symbolic x) r m = (r ≡ 0) × (m ≡ 1)
DstRow (dst.Absolute x) r m = (r ≡ 2) × (m ≡ 1)

-- the word that an operand has behind the instruction word
abbrev pub src_words : Src → List ℕ
src_words (src.Reg n) = []
src_words (src.Indexed n x) = x ∷ []
src_words (src.Symbolic x) = x ∷ []
src_words (src.Absolute x) = x ∷ []
src_words (src.Indirect n) = []
src_words (src.AutoInc n) = []
src_words (src.Immediate x) = x ∷ []
src_words (src.Const c) = []

abbrev pub dst_words : Dst → List ℕ
dst_words (dst.Reg n) = []
dst_words (dst.Indexed n x) = x ∷ []
dst_words (dst.Symbolic x) = x ∷ []
dst_words (dst.Absolute x) = x ∷ []

-- SWPB, SXT and CALL have no byte form
abbrev pub TakesWidth : Op1 → Width → Type 0
TakesWidth op Wide = Unit {0}
TakesWidth Rrc Byte = Unit {0}
TakesWidth Swpb Byte = ⊥
TakesWidth Rra Byte = Unit {0}
TakesWidth Sxt Byte = ⊥
TakesWidth Push Byte = Unit {0}
TakesWidth Call Byte = ⊥

-- PUSH alone takes a constant, and PUSH and CALL alone an immediate
abbrev pub TakesConst : Op1 → Type 0
TakesConst Push = Unit {0}
TakesConst Rrc = ⊥
TakesConst Swpb = ⊥
TakesConst Rra = ⊥
TakesConst Sxt = ⊥
TakesConst Call = ⊥

abbrev pub TakesImmediate : Op1 → Type 0
TakesImmediate Push = Unit {0}
TakesImmediate Call = Unit {0}
TakesImmediate Rrc = ⊥
TakesImmediate Swpb = ⊥
TakesImmediate Rra = ⊥
TakesImmediate Sxt = ⊥

abbrev pub Takes : Op1 → Src → Type 0
Takes op (src.Reg n) = Unit {0}
Takes op (src.Indexed n x) = Unit {0}
Takes op (src.Symbolic x) = Unit {0}
Takes op (src.Absolute x) = Unit {0}
Takes op (src.Indirect n) = Unit {0}
Takes op (src.AutoInc n) = Unit {0}
Takes op (src.Immediate x) = TakesImmediate op
Takes op (src.Const c) = TakesConst op

-- ten bits k, read with their sign
abbrev pub OffsetRow : ℤ → ℕ → Type 0
OffsetRow z k = z +ℤ pos 512 ≡ pos ((k + 512) % 1024)

-- the fields of the first word
pub record TwoFields (op : Op2) (width : Width) (src : Src) (dst : Dst) (w : ℕ) : Type 0 where
  pub op_code : w / 4096 ≡ op2_code op
  pub width_bit : w / 64 % 2 ≡ width_code width
  pub source : SrcRow src (w / 256 % 16) (w / 16 % 4)
  pub destination : DstRow dst (w % 16) (w / 128 % 2)

pub record OneFields (op : Op1) (width : Width) (src : Src) (w : ℕ) : Type 0 where
  pub form : w / 1024 ≡ 4
  pub op_code : w / 128 % 8 ≡ op1_code op
  pub width_bit : w / 64 % 2 ≡ width_code width
  pub source : SrcRow src (w % 16) (w / 16 % 4)
  pub takes_width : TakesWidth op width
  pub takes : Takes op src

pub record JumpFields (cond : Cond) (offset : ℤ) (w : ℕ) : Type 0 where
  pub form : w / 8192 ≡ 1
  pub code : w / 1024 % 8 ≡ cond_code cond
  pub place : OffsetRow offset (w % 1024)

-- w is the first word of the instruction
abbrev pub First : Instr → ℕ → Type 0
First (instr.Two op width src dst) w = TwoFields op width src dst w
First (instr.One op width src) w = OneFields op width src w
First instr.Reti w = w ≡ 4864
First (instr.Jump cond offset) w = JumpFields cond offset w

-- the words behind the first
abbrev pub words_after : Instr → List ℕ
words_after (instr.Two op width src dst) = src_words src ++ dst_words dst
words_after (instr.One op width src) = src_words src
words_after instr.Reti = []
words_after (instr.Jump cond offset) = []

-- the words spell the instruction
abbrev pub Spells : Instr → List ℕ → Type 0
Spells i [] = ⊥
Spells i (w ∷ ws) = First i w × (ws ≡ words_after i)

-- some list spells it
abbrev pub Legal : Instr → Type 0
Legal i = (ws : List ℕ) × Spells i ws

abbrev pub LegalSrc : Src → Type 0
LegalSrc s = (r : ℕ) × (m : ℕ) × (r < 16) × SrcRow s r m

abbrev pub LegalDst : Dst → Type 0
LegalDst d = (r : ℕ) × (m : ℕ) × (r < 16) × DstRow d r m

abbrev pub OffsetLegal : ℤ → Type 0
OffsetLegal z = (k : ℕ) × OffsetRow z k

-- ---- the legal instructions, by cases

abbrev pub SrcFits : Src → Type 0
SrcFits (src.Reg n) = (n < 16) × (n ≢ 3)
SrcFits (src.Indexed n x) = (n < 16) × IsBase n
SrcFits (src.Symbolic x) = Unit {0}
SrcFits (src.Absolute x) = Unit {0}
SrcFits (src.Indirect n) = (n < 16) × IsBase n
SrcFits (src.AutoInc n) = (n < 16) × IsBase n
SrcFits (src.Immediate x) = Unit {0}
SrcFits (src.Const c) = Unit {0}

abbrev pub DstFits : Dst → Type 0
DstFits (dst.Reg n) = n < 16
DstFits (dst.Indexed n x) = (n < 16) × IsBase n
DstFits (dst.Symbolic x) = Unit {0}
DstFits (dst.Absolute x) = Unit {0}

abbrev pub InstrFits : Instr → Type 0
InstrFits (instr.Two op width src dst) = SrcFits src × DstFits dst
InstrFits (instr.One op width src) = SrcFits src × TakesWidth op width × Takes op src
InstrFits instr.Reti = Unit {0}
InstrFits (instr.Jump cond offset) = (negsuc 511 ≤ℤ offset) × (offset <ℤ pos 512)

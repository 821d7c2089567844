-- The words of an instruction as a list: `specs/Laws.antt` says that those of a legal instruction spell it.
use Rattle.std.specs.Prelude.{ℕ, ◌+◌, ◌-◌, ◌*◌, List, ◌∷◌, length, ℤ, pos, negsuc}
use Rattle.msp_encode.specs.declared.instr.Cg.{Cg}
use Rattle.msp_encode.specs.declared.instr.Cg.TheVariants.{Zero, One, Two, Four, Eight, AllOnes}
use Rattle.msp_encode.specs.declared.instr.Src.{Src}
use Rattle.msp_encode.specs.declared.instr.Src.TheVariants as src
use Rattle.msp_encode.specs.declared.instr.Dst.{Dst}
use Rattle.msp_encode.specs.declared.instr.Dst.TheVariants as dst
use Rattle.msp_encode.specs.declared.instr.Instr.{Instr}
use Rattle.msp_encode.specs.declared.instr.Instr.TheVariants as instr
use Rattle.msp_encode.specs.Spelling.{op2_code, op1_code, cond_code, width_code, words_after}

-- ---- the first word

abbrev pub const_register : Cg → ℕ
const_register Zero = 3
const_register One = 3
const_register Two = 3
const_register Four = 2
const_register Eight = 2
const_register AllOnes = 3

abbrev pub const_mode : Cg → ℕ
const_mode Zero = 0
const_mode One = 1
const_mode Two = 2
const_mode Four = 2
const_mode Eight = 3
const_mode AllOnes = 3

abbrev pub src_register : Src → ℕ
src_register (src.Reg n) = n
src_register (src.Indexed n x) = n
src_register (src.Symbolic x) = 0
src_register (src.Absolute x) = 2
src_register (src.Indirect n) = n
src_register (src.AutoInc n) = n
src_register (src.Immediate x) = 0
src_register (src.Const c) = const_register c

abbrev pub src_mode : Src → ℕ
src_mode (src.Reg n) = 0
src_mode (src.Indexed n x) = 1
src_mode (src.Symbolic x) = 1
src_mode (src.Absolute x) = 1
src_mode (src.Indirect n) = 2
src_mode (src.AutoInc n) = 3
src_mode (src.Immediate x) = 3
src_mode (src.Const c) = const_mode c

abbrev pub dst_register : Dst → ℕ
dst_register (dst.Reg n) = n
dst_register (dst.Indexed n x) = n
dst_register (dst.Symbolic x) = 0
dst_register (dst.Absolute x) = 2

abbrev pub dst_mode : Dst → ℕ
dst_mode (dst.Reg n) = 0
dst_mode (dst.Indexed n x) = 1
dst_mode (dst.Symbolic x) = 1
dst_mode (dst.Absolute x) = 1

-- a jump's offset as ten bits
abbrev pub ten_bits : ℤ → ℕ
ten_bits (pos k) = k
ten_bits (negsuc k) = 1023 - k

unfoldable pub two_word : (op width : ℕ) (register mode : ℕ) (to to_mode : ℕ) → ℕ
two_word op width register mode to to_mode = op * 4096 + register * 256 + to_mode * 128 + width * 64 + mode * 16 + to

unfoldable pub one_word : (op width : ℕ) (register mode : ℕ) → ℕ
one_word op width register mode = 4096 + op * 128 + width * 64 + mode * 16 + register

unfoldable pub jump_word : (code offset : ℕ) → ℕ
jump_word code offset = 8192 + code * 1024 + offset

abbrev pub first_word : Instr → ℕ
first_word (instr.Two op w s d) = two_word (op2_code op) (width_code w) (src_register s) (src_mode s) (dst_register d) (dst_mode d)
first_word (instr.One op w s) = one_word (op1_code op) (width_code w) (src_register s) (src_mode s)
first_word instr.Reti = 4864
first_word (instr.Jump c k) = jump_word (cond_code c) (ten_bits k)

-- the words that spell a legal instruction, and how many they are
unfoldable pub spelling : Instr → List ℕ
spelling i = first_word i ∷ words_after i

abbrev pub count : Instr → ℕ
count i = 1 + length (words_after i)

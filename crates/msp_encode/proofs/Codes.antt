-- The codes of operations are numbers of so many bits.
use Rattle.std.proofs.Common.{◌≤◌, ◌<◌, arith}
use Rattle.msp_encode.specs.declared.instr.Op2.{Op2}
use Rattle.msp_encode.specs.declared.instr.Op2.TheVariants.{Mov, Add, Addc, Subc, Sub, Cmp, Dadd, Bit, Bic, Bis, Xor, And}
use Rattle.msp_encode.specs.declared.instr.Op1.{Op1}
use Rattle.msp_encode.specs.declared.instr.Op1.TheVariants.{Rrc, Swpb, Rra, Sxt, Push, Call}
use Rattle.msp_encode.specs.declared.instr.Cond.{Cond}
use Rattle.msp_encode.specs.declared.instr.Cond.TheVariants.{Ne, Eq, Nc, C, N, Ge, L, Always}
use Rattle.msp_encode.specs.declared.instr.Width.{Width}
use Rattle.msp_encode.specs.declared.instr.Width.TheVariants.{Wide, Byte}
use Rattle.msp_encode.specs.Spelling.{op2_code, op1_code, cond_code, width_code}

pub op2_code-range : (op : Op2) → (4 ≤ op2_code op) × (op2_code op < 16)
op2_code-range Mov = (omega arith, omega arith)
op2_code-range Add = (omega arith, omega arith)
op2_code-range Addc = (omega arith, omega arith)
op2_code-range Subc = (omega arith, omega arith)
op2_code-range Sub = (omega arith, omega arith)
op2_code-range Cmp = (omega arith, omega arith)
op2_code-range Dadd = (omega arith, omega arith)
op2_code-range Bit = (omega arith, omega arith)
op2_code-range Bic = (omega arith, omega arith)
op2_code-range Bis = (omega arith, omega arith)
op2_code-range Xor = (omega arith, omega arith)
op2_code-range And = (omega arith, omega arith)

pub op1_code-range : (op : Op1) → op1_code op < 6
op1_code-range Rrc = omega arith
op1_code-range Swpb = omega arith
op1_code-range Rra = omega arith
op1_code-range Sxt = omega arith
op1_code-range Push = omega arith
op1_code-range Call = omega arith

pub cond_code-range : (c : Cond) → cond_code c < 8
cond_code-range Ne = omega arith
cond_code-range Eq = omega arith
cond_code-range Nc = omega arith
cond_code-range C = omega arith
cond_code-range N = omega arith
cond_code-range Ge = omega arith
cond_code-range L = omega arith
cond_code-range Always = omega arith

pub width_code-range : (width : Width) → width_code width < 2
width_code-range Wide = omega arith
width_code-range Byte = omega arith

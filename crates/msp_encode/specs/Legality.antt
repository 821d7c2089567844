-- The conditions on an instruction's parts, as tests.
use Rattle.std.specs.Prelude.{ℕ, ◌==◌, ◌&&◌, not, nat_lt, Bool, true, false}
use Rattle.msp_encode.specs.declared.registers.TheConstants.{PC, SR, CONSTANTS}
use Rattle.msp_encode.specs.declared.instr.Op1.{Op1}
use Rattle.msp_encode.specs.declared.instr.Op1.TheVariants.{Rrc, Swpb, Rra, Sxt, Push, Call}
use Rattle.msp_encode.specs.declared.instr.Width.{Width}
use Rattle.msp_encode.specs.declared.instr.Width.TheVariants.{Wide, Byte}
use Rattle.msp_encode.specs.declared.instr.Src.{Src}
use Rattle.msp_encode.specs.declared.instr.Src.TheVariants as src
use Rattle.msp_encode.specs.declared.instr.Dst.{Dst}
use Rattle.msp_encode.specs.declared.instr.Dst.TheVariants as dst

-- an address can be made of the register
abbrev pub is_base : ℕ → Bool
is_base r = nat_lt r 16 && not (r == PC) && not (r == SR) && not (r == CONSTANTS)

abbrev pub src_fits : Src → Bool
src_fits (src.Reg r) = nat_lt r 16 && not (r == CONSTANTS)
src_fits (src.Indexed r x) = is_base r
src_fits (src.Symbolic x) = true
src_fits (src.Absolute x) = true
src_fits (src.Indirect r) = is_base r
src_fits (src.AutoInc r) = is_base r
src_fits (src.Immediate x) = true
src_fits (src.Const c) = true

abbrev pub dst_fits : Dst → Bool
dst_fits (dst.Reg r) = nat_lt r 16
dst_fits (dst.Indexed r x) = is_base r
dst_fits (dst.Symbolic x) = true
dst_fits (dst.Absolute x) = true

-- SWPB, SXT and CALL have no byte form
abbrev pub takes_width : Op1 → Width → Bool
takes_width op Wide = true
takes_width Rrc Byte = true
takes_width Swpb Byte = false
takes_width Rra Byte = true
takes_width Sxt Byte = false
takes_width Push Byte = true
takes_width Call Byte = false

-- PUSH alone takes a constant
abbrev pub takes_constant : Op1 → Bool
takes_constant Push = true
takes_constant Rrc = false
takes_constant Swpb = false
takes_constant Rra = false
takes_constant Sxt = false
takes_constant Call = false

-- PUSH and CALL alone take an immediate
abbrev pub takes_immediate : Op1 → Bool
takes_immediate Push = true
takes_immediate Call = true
takes_immediate Rrc = false
takes_immediate Swpb = false
takes_immediate Rra = false
takes_immediate Sxt = false

abbrev pub takes : Op1 → Src → Bool
takes op (src.Reg r) = true
takes op (src.Indexed r x) = true
takes op (src.Symbolic x) = true
takes op (src.Absolute x) = true
takes op (src.Indirect r) = true
takes op (src.AutoInc r) = true
takes op (src.Immediate x) = takes_immediate op
takes op (src.Const c) = takes_constant op

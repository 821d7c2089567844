-- Checks and entries of single instructions, worked by hand.
use Rattle.std.proofs.Common.{◌≡◌, Option, None, Some, refl}
use Rattle.msp_encode.specs.declared.instr.Op2.TheVariants.{Mov, Add, Cmp}
use Rattle.msp_encode.specs.declared.instr.Op1.TheVariants.{Rra, Push, Call}
use Rattle.msp_encode.specs.declared.instr.Width.TheVariants.{Wide, Byte}
use Rattle.msp_encode.specs.declared.instr.Cond.TheVariants.{Always}
use Rattle.msp_encode.specs.declared.instr.Src.TheVariants as src
use Rattle.msp_encode.specs.declared.instr.Dst.TheVariants as dst
use Rattle.msp_encode.specs.declared.instr.Instr.{Instr}
use Rattle.msp_encode.specs.declared.instr.Instr.TheVariants as instr
use Rattle.std.specs.Prelude.{pos}
use Rattle.code_model.specs.declared.parts.RelKind.{RelKind}
use Rattle.code_model.specs.declared.parts.RelKind.TheVariants.{Data}
use Rattle.insert_model.specs.Source.{own_piece}
use Rattle.placed_unit_laws.specs.Checks.{Check, Unchecked, OfStore, OfGrowth, OfPop, OfSp, check_of_instr, handed}

-- the check of an instruction whose second and third word have these relocations, beside a static part of 12 bytes
abbrev check : Instr → (second third : Option RelKind) → Check
check i j k = check_of_instr 12 (own_piece i j k) i

-- `MOV R7,4(R6)` and `RRA @R6` store where R6 tells, `MOV R7,&4` with DATA in static data, and `MOV R7,&12` with DATA outside of it
store : check (instr.Two Mov Wide (src.Reg 7) (dst.Indexed 6 4)) None None ≡ OfStore 6 4 None
store = refl

changed : check (instr.One Rra Byte (src.Indirect 6)) None None ≡ OfStore 6 0 None
changed = refl

static : check (instr.Two Mov Wide (src.Reg 7) (dst.Absolute 4)) (Some Data) None ≡ Unchecked
static = refl

beyond : check (instr.Two Mov Wide (src.Reg 7) (dst.Absolute 12)) (Some Data) None ≡ OfStore 3 12 (Some Data)
beyond = refl

-- `CMP R7,4(R6)` writes nothing
compared : check (instr.Two Cmp Wide (src.Reg 7) (dst.Indexed 6 4)) None None ≡ Unchecked
compared = refl

-- `PUSH R6`, `ADD @SP+,R6` and `ADD #2,SP`
pushed : check (instr.One Push Wide (src.Reg 6)) None None ≡ OfGrowth
pushed = refl

popped : check (instr.Two Add Wide (src.AutoInc 1) (dst.Reg 6)) None None ≡ OfPop
popped = refl

raised : check (instr.Two Add Wide (src.Immediate 2) (dst.Reg 1)) None None ≡ OfSp Add Wide (src.Immediate 2) None
raised = refl

-- a return and a computed call are taken over, a call of a place, a branch and a jump are not
returns : handed (instr.Two Mov Wide (src.AutoInc 1) (dst.Reg 0)) ≡ Some (0xF004, src.AutoInc 1)
returns = refl

calls : handed (instr.One Call Wide (src.Reg 6)) ≡ Some (0xF006, src.Reg 6)
calls = refl

named : handed (instr.One Call Wide (src.Immediate 4)) ≡ None
named = refl

branched : handed (instr.Two Mov Wide (src.Immediate 4) (dst.Reg 0)) ≡ None
branched = refl

jumped : handed (instr.Jump Always (pos 1)) ≡ None
jumped = refl

-- The instructions of blocks.
use Rattle.std.specs.Prelude.{ℕ, ◌≤◌, ◌<◌, List, [], ◌∷◌, pos}
use Rattle.std.specs.List.{flat_map}
use Rattle.msp_encode.specs.declared.registers.TheConstants.{PC, SP}
use Rattle.msp_encode.specs.declared.instr.Op1.TheVariants.{Rra, Push, Call}
use Rattle.msp_encode.specs.declared.instr.Op2.TheVariants as op
use Rattle.msp_encode.specs.declared.instr.Cond.TheVariants.{Ne}
use Rattle.msp_encode.specs.declared.instr.Width.TheVariants.{Wide}
use Rattle.msp_encode.specs.declared.instr.Src.TheVariants as src
use Rattle.msp_encode.specs.declared.instr.Dst.TheVariants as dst
use Rattle.msp_encode.specs.declared.instr.Instr.{Instr}
use Rattle.msp_encode.specs.declared.instr.Instr.TheVariants as instr
use Rattle.gen_model.specs.declared.block.Block.{Block}
use Rattle.gen_model.specs.declared.block.Block.TheVariants.{Set, Add, Xor, Keep, Store, Pass, Halve, Skip, Emit, Restart}
use Rattle.kernel_model.specs.declared.entries.TheConstants.{EMITS}

abbrev pub instrs : Block → List Instr
instrs (Set to value) = instr.Two op.Mov Wide (src.Immediate value) (dst.Reg to) ∷ []
instrs (Add from to) = instr.Two op.Add Wide (src.Reg from) (dst.Reg to) ∷ []
instrs (Xor from to) = instr.Two op.Xor Wide (src.Reg from) (dst.Reg to) ∷ []
instrs (Keep from place) = instr.Two op.Mov Wide (src.Reg from) (dst.Absolute place) ∷ []
instrs (Store from place) =
    instr.Two op.Mov Wide (src.Immediate place) (dst.Reg 12) ∷ instr.Two op.Mov Wide (src.Reg from) (dst.Indexed 12 0) ∷ []
instrs (Pass from to) = instr.One Push Wide (src.Reg from) ∷ instr.Two op.Mov Wide (src.AutoInc SP) (dst.Reg to) ∷ []
instrs (Halve to) = instr.One Rra Wide (src.Reg to) ∷ []
instrs (Skip from to) = instr.Jump Ne (pos 1) ∷ instr.Two op.Mov Wide (src.Reg from) (dst.Reg to) ∷ []
instrs (Emit from) = instr.Two op.Mov Wide (src.Reg from) (dst.Reg 12) ∷ instr.One Call Wide (src.Immediate EMITS) ∷ []
instrs Restart = instr.Two op.Mov Wide (src.Immediate 0) (dst.Reg PC) ∷ []

-- those of blocks one behind another
unfoldable pub all_instrs : List Block → List Instr
all_instrs bs = flat_map instrs bs

-- one of R6 to R12
pub record IsFree (r : ℕ) : Type 0 where
  pub least : 6 ≤ r
  pub most : r ≤ 12

-- a block names registers that no guard uses, and places in the static part
abbrev pub Suits : Block → Type 0
Suits (Set to value) = IsFree to
Suits (Add from to) = IsFree from × IsFree to
Suits (Xor from to) = IsFree from × IsFree to
Suits (Keep from place) = IsFree from × (place < 64)
Suits (Store from place) = IsFree from
Suits (Pass from to) = IsFree from × IsFree to
Suits (Halve to) = IsFree to
Suits (Skip from to) = IsFree from × IsFree to
Suits (Emit from) = IsFree from
Suits Restart = Unit {0}

abbrev pub AllSuit : List Block → Type 0
AllSuit [] = Unit {0}
AllSuit (b ∷ bs) = Suits b × AllSuit bs

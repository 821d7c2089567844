-- The guards, as pieces.
use Rattle.std.specs.Prelude.{ℕ, ◌==◌, if◌then◌else◌, List, [], ◌∷◌, ℤ, pos, Option, None, Some}
use Rattle.msp_encode.specs.declared.registers.TheConstants.{CHECKED, CONSTANTS, KEPT_STATUS, PC, SP, SR}
use Rattle.msp_encode.specs.declared.instr.Op2.{Op2}
use Rattle.msp_encode.specs.declared.instr.Op2.TheVariants.{Mov, Add, Cmp}
use Rattle.msp_encode.specs.declared.instr.Cond.{Cond}
use Rattle.msp_encode.specs.declared.instr.Cond.TheVariants as cond
use Rattle.msp_encode.specs.declared.instr.Width.TheVariants.{Wide}
use Rattle.msp_encode.specs.declared.instr.Cg.TheVariants.{Zero}
use Rattle.msp_encode.specs.declared.instr.Src.{Src}
use Rattle.msp_encode.specs.declared.instr.Src.TheVariants as src
use Rattle.msp_encode.specs.declared.instr.Dst.{Dst}
use Rattle.msp_encode.specs.declared.instr.Dst.TheVariants as dst
use Rattle.msp_encode.specs.declared.instr.Instr.{Instr}
use Rattle.msp_encode.specs.declared.instr.Instr.TheVariants as instr
use Rattle.code_model.specs.declared.parts.RelKind.{RelKind}
use Rattle.code_model.specs.declared.parts.RelKind.TheVariants.{Lo, Hi}
use Rattle.code_model.specs.declared.guards.Reach.{Reach}
use Rattle.code_model.specs.Guards.{high_word}
use Rattle.insert_model.specs.declared.piece.Piece.{Piece}
use Rattle.kernel_model.specs.declared.map.TheConstants.{STACK_LIMIT, STACK_TOP}
use Rattle.kernel_model.specs.declared.entries.TheConstants.{STACK_FAULT, STORE_FAULT}

-- ---- single pieces

abbrev pub plain : Instr → Piece
plain i = record { instr = i; source = None; destination = None }

-- `MOV s,d`, `CMP s,d` and a jump, without relocation
abbrev pub mov : Src → Dst → Piece
mov s d = plain (instr.Two Mov Wide s d)

abbrev pub cmp : Src → Dst → Piece
cmp s d = plain (instr.Two Cmp Wide s d)

abbrev pub jump : Cond → ℤ → Piece
jump c k = plain (instr.Jump c k)

-- `op #x,R4` with a relocation of x
abbrev pub on_r4 : Op2 → ℕ → Option RelKind → Piece
on_r4 op x k = record { instr = instr.Two op Wide (src.Immediate x) (dst.Reg CHECKED); source = k; destination = None }

-- `MOV #x,PC`, 4030 x
abbrev pub branch : ℕ → Option RelKind → Piece
branch x k = record { instr = instr.Two Mov Wide (src.Immediate x) (dst.Reg PC); source = k; destination = None }

-- `MOV SR,R5`, 4205, and `MOV R5,SR`, 4502
abbrev pub save : Piece
save = mov (src.Reg SR) (dst.Reg KEPT_STATUS)

abbrev pub restore : Piece
restore = mov (src.Reg KEPT_STATUS) (dst.Reg SR)

-- `MOV SP,R4`, 4104, `MOV @SP+,R4`, 4134, and `MOV R4,SP`, 4401
abbrev pub take_sp : Piece
take_sp = mov (src.Reg SP) (dst.Reg CHECKED)

abbrev pub pop_r4 : Piece
pop_r4 = mov (src.AutoInc SP) (dst.Reg CHECKED)

abbrev pub give_sp : Piece
give_sp = mov (src.Reg CHECKED) (dst.Reg SP)

-- a register, or 0 where the register is R3
abbrev pub base : ℕ → Src
base n = if n == CONSTANTS then src.Const Zero else src.Reg n

-- ---- guards

-- 4205, 4n04, 5034 X, 9034 LO, 2803, 9034 HI, 2802, 4030 F000, 4502, where the region's end is added to a word
abbrev pub region_guard : (n x high : ℕ) → Option RelKind → List Piece
region_guard n x high k = save ∷ mov (base n) (dst.Reg CHECKED) ∷ on_r4 Add x k ∷ on_r4 Cmp 0 (Some Lo) ∷ jump cond.Nc (pos 3)
    ∷ on_r4 Cmp high (Some Hi) ∷ jump cond.Nc (pos 2) ∷ branch STORE_FAULT None ∷ restore ∷ []

-- before one store
abbrev pub store_guard : (n x : ℕ) → Option RelKind → List Piece
store_guard n x k = region_guard n x 0 k

-- before several, of which the last byte is so many bytes behind the first's
abbrev pub wide_guard : Reach → (n x : ℕ) → Option RelKind → List Piece
wide_guard r n x k = region_guard n x (high_word r) k

-- 4205, 9211 0200, 2C02, 4030 F002, 4502
abbrev pub growth_guard : List Piece
growth_guard = save ∷ cmp (src.Absolute STACK_LIMIT) (dst.Reg SP) ∷ jump cond.C (pos 2) ∷ branch STACK_FAULT None ∷ restore ∷ []

-- 4205, 9182 0202, 2002, 4030 F002, 4502
abbrev pub pop_guard : List Piece
pop_guard = save ∷ cmp (src.Reg SP) (dst.Absolute STACK_TOP) ∷ jump cond.Ne (pos 2) ∷ branch STACK_FAULT None ∷ restore ∷ []

-- 4205, 9214 0200, 2803, 9482 0202, 2C02, 4030 F002, 4502
abbrev pub sp_guard : List Piece
sp_guard = save ∷ cmp (src.Absolute STACK_LIMIT) (dst.Reg CHECKED) ∷ jump cond.Nc (pos 3) ∷ cmp (src.Reg CHECKED) (dst.Absolute STACK_TOP) ∷ jump cond.C (pos 2)
    ∷ branch STACK_FAULT None ∷ restore ∷ []

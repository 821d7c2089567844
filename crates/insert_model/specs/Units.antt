-- The unit of each source instruction: what stands for it in an object with guards.
use Rattle.std.specs.Prelude.{ℕ, ◌+◌, ◌-◌, ◌*◌, ◌/◌, ◌==◌, ◌&&◌, Bool, true, false, nat_le, nat_lt, if◌then◌else◌, List, [], ◌∷◌, ◌++◌, length, ℤ, pos, negsuc, Option, None, Some}
use Rattle.msp_encode.specs.declared.registers.TheConstants.{PC, SP, CHECKED}
use Rattle.msp_encode.specs.declared.instr.Op2.{Op2}
use Rattle.msp_encode.specs.declared.instr.Op2.TheVariants.{Mov}
use Rattle.msp_encode.specs.declared.instr.Op1.{Op1}
use Rattle.msp_encode.specs.declared.instr.Op1.TheVariants.{Rrc, Swpb, Rra, Sxt, Push, Call}
use Rattle.msp_encode.specs.declared.instr.Cond.{Cond}
use Rattle.msp_encode.specs.declared.instr.Cond.TheVariants as cond
use Rattle.msp_encode.specs.declared.instr.Width.{Width}
use Rattle.msp_encode.specs.declared.instr.Width.TheVariants.{Wide}
use Rattle.msp_encode.specs.declared.instr.Src.{Src}
use Rattle.msp_encode.specs.declared.instr.Src.TheVariants as src
use Rattle.msp_encode.specs.declared.instr.Dst.{Dst}
use Rattle.msp_encode.specs.declared.instr.Dst.TheVariants as dst
use Rattle.msp_encode.specs.declared.instr.Instr.{Instr}
use Rattle.msp_encode.specs.declared.instr.Instr.TheVariants as instr
use Rattle.msp_encode.specs.Forms.{writes, is_dst, pops, is_immediate}
use Rattle.code_model.specs.declared.parts.RelKind.{RelKind}
use Rattle.code_model.specs.declared.parts.RelKind.TheVariants.{Code, Data, Lo, Hi}
use Rattle.code_model.specs.Fields.{Fields}
use Rattle.insert_model.specs.declared.aim.Aim.{Aim}
use Rattle.insert_model.specs.declared.aim.Aim.TheVariants.{ToPc, ToSp, ToMemory, Elsewhere}
use Rattle.insert_model.specs.declared.line.Line.{Line}
use Rattle.insert_model.specs.declared.piece.Piece.{Piece}
use Rattle.insert_model.specs.Source.{own}
use Rattle.insert_model.specs.Guards.{plain, jump, branch, take_sp, pop_r4, give_sp, store_guard, growth_guard, pop_guard, sp_guard}
use Rattle.kernel_model.specs.declared.entries.TheConstants.{CALLS, GOES}

-- ---- what a destination asks for

-- the bytes of the static part, initialised and zeroed, rounded up to even
unfoldable pub static_bytes : Fields → ℕ
static_bytes f = (length f.init + f.zeroed + 1) / 2 * 2

-- an absolute operand of a static part of so many bytes
abbrev pub is_static : (size x : ℕ) → Option RelKind → Bool
is_static size x None = false
is_static size x (Some Code) = false
is_static size x (Some Data) = nat_lt x size
is_static size x (Some Lo) = false
is_static size x (Some Hi) = false

abbrev pub absolute_aim : (size x : ℕ) → Option RelKind → Aim
absolute_aim size x k = if is_static size x k then Elsewhere else ToMemory 3 x k

abbrev pub aim : (size : ℕ) → Dst → Option RelKind → Aim
aim size (dst.Reg n) k = if n == PC then ToPc else (if n == SP then ToSp else Elsewhere)
aim size (dst.Indexed n x) k = ToMemory n x k
aim size (dst.Symbolic x) k = Elsewhere
aim size (dst.Absolute x) k = absolute_aim size x k

-- that of the operand of RRC, RRA, SWPB and SXT
abbrev pub aim_one : (size : ℕ) → Src → Option RelKind → Aim
aim_one size (src.Reg n) k = Elsewhere
aim_one size (src.Indexed n x) k = ToMemory n x k
aim_one size (src.Symbolic x) k = Elsewhere
aim_one size (src.Absolute x) k = absolute_aim size x k
aim_one size (src.Indirect n) k = ToMemory n 0 None
aim_one size (src.AutoInc n) k = Elsewhere
aim_one size (src.Immediate x) k = Elsewhere
aim_one size (src.Const c) k = Elsewhere

-- the source is @SP+
abbrev pub is_popped : Src → Bool
is_popped s = pops s SP

abbrev pub is_pc : Dst → Bool
is_pc d = is_dst d PC

abbrev pub is_wide_move : Op2 → Width → Bool
is_wide_move Mov Wide = true
is_wide_move _ _ = false

-- one of R6 to R15
abbrev pub is_free : Dst → Bool
is_free (dst.Reg n) = nat_le 6 n
is_free (dst.Indexed n x) = false
is_free (dst.Symbolic x) = false
is_free (dst.Absolute x) = false

-- `MOV @SP+,Rn` of a word, n in 6 to 15
abbrev pub is_plain_pop : Op2 → Width → Dst → Bool
is_plain_pop op w d = is_wide_move op w && is_free d

-- ---- the table

-- `op src,R4`
abbrev pub into_r4 : Op2 → Width → Src → Option RelKind → Piece
into_r4 op w s k = record { instr = instr.Two op w s (dst.Reg CHECKED); source = k; destination = None }

-- `op src,0(R4)`
abbrev pub through_r4 : Op2 → Width → Src → Option RelKind → Piece
through_r4 op w s k = record { instr = instr.Two op w s (dst.Indexed CHECKED 0); source = k; destination = None }

-- `op R4,dst`
abbrev pub from_r4 : Op2 → Width → Dst → Option RelKind → Piece
from_r4 op w d k = record { instr = instr.Two op w (src.Reg CHECKED) d; source = None; destination = k }

-- `op @SP+,dst`: a return, a pop of a whole word into R6 to R15, and another
abbrev pub popping : Op2 → Width → Dst → Piece → List Piece
popping op w d p =
    if is_pc d then pop_guard ++ pop_r4 ∷ branch GOES None ∷ []
    else (if is_plain_pop op w d then pop_guard ++ p ∷ []
    else pop_guard ++ pop_r4 ∷ from_r4 op w d p.destination ∷ [])

-- `op src,SP`
abbrev pub setting_sp : Op2 → Width → Src → Option RelKind → List Piece
setting_sp op w s k = (take_sp ∷ into_r4 op w s k ∷ sp_guard) ++ give_sp ∷ []

-- `op src,dst` of another source, where the operation writes
abbrev pub writing : Op2 → Width → Src → Piece → Aim → List Piece
writing op w s p ToPc = if is_immediate s then p ∷ [] else into_r4 Mov Wide s p.source ∷ branch GOES None ∷ []
writing op w s p ToSp = setting_sp op w s p.source
writing op w s p (ToMemory n x k) = store_guard n x k ++ through_r4 op w s p.source ∷ []
writing op w s p Elsewhere = p ∷ []

abbrev pub two_unit : (size : ℕ) → Op2 → Width → Src → Dst → Piece → List Piece
two_unit size op w s d p =
    if is_popped s then popping op w d p
    else (if writes op then writing op w s p (aim size d p.destination)
    else p ∷ [])

-- RRC, RRA, SWPB and SXT
abbrev pub changing : Op1 → Width → Piece → Aim → List Piece
changing op w p ToPc = p ∷ []
changing op w p ToSp = p ∷ []
changing op w p (ToMemory n x k) = store_guard n x k ++ plain (instr.One op w (src.Indirect CHECKED)) ∷ []
changing op w p Elsewhere = p ∷ []

-- `CALL src` of a value
abbrev pub calling_value : Src → Option RelKind → List Piece
calling_value s k = (into_r4 Mov Wide s k ∷ growth_guard) ++ plain (instr.One Call Wide (src.Immediate CALLS)) ∷ []

-- CALL of a place, and of a value
abbrev pub calling : Src → Piece → List Piece
calling s p = if is_immediate s then growth_guard ++ p ∷ [] else calling_value s p.source

abbrev pub one_unit : (size : ℕ) → Op1 → Width → Src → Piece → List Piece
one_unit size Rrc w s p = changing Rrc w p (aim_one size s p.source)
one_unit size Swpb w s p = changing Swpb w p (aim_one size s p.source)
one_unit size Rra w s p = changing Rra w p (aim_one size s p.source)
one_unit size Sxt w s p = changing Sxt w p (aim_one size s p.source)
one_unit size Push w s p = growth_guard ++ p ∷ []
one_unit size Call w s p = calling s p

-- the offset that a jump at a place names, 0 for one before the code
abbrev pub target_offset : ℕ → ℤ → ℕ
target_offset at (pos k) = 2 * (at + 1 + k)
target_offset at (negsuc k) = 2 * (at - k)

-- JMP as a branch, and another jump over a branch
abbrev pub jump_unit : ℕ → Cond → List Piece
jump_unit x cond.Ne = jump cond.Ne (pos 1) ∷ jump cond.Always (pos 2) ∷ branch x (Some Code) ∷ []
jump_unit x cond.Eq = jump cond.Eq (pos 1) ∷ jump cond.Always (pos 2) ∷ branch x (Some Code) ∷ []
jump_unit x cond.Nc = jump cond.Nc (pos 1) ∷ jump cond.Always (pos 2) ∷ branch x (Some Code) ∷ []
jump_unit x cond.C = jump cond.C (pos 1) ∷ jump cond.Always (pos 2) ∷ branch x (Some Code) ∷ []
jump_unit x cond.N = jump cond.N (pos 1) ∷ jump cond.Always (pos 2) ∷ branch x (Some Code) ∷ []
jump_unit x cond.Ge = jump cond.Ge (pos 1) ∷ jump cond.Always (pos 2) ∷ branch x (Some Code) ∷ []
jump_unit x cond.L = jump cond.L (pos 1) ∷ jump cond.Always (pos 2) ∷ branch x (Some Code) ∷ []
jump_unit x cond.Always = branch x (Some Code) ∷ []

abbrev pub unit_of : (size at : ℕ) → Piece → Instr → List Piece
unit_of size at p (instr.Two op w s d) = two_unit size op w s d p
unit_of size at p (instr.One op w s) = one_unit size op w s p
unit_of size at p instr.Reti = p ∷ []
unit_of size at p (instr.Jump c k) = jump_unit (target_offset at k) c

-- the unit of a line, beside a static part of so many bytes
unfoldable pub unit : ℕ → Line → List Piece
unit size l = unit_of size l.at (own l) l.instr

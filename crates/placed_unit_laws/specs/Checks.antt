-- The check that the unit of a source instruction makes, and where it fails.
use Rattle.std.specs.Prelude.{◌≡◌, ℕ, ◌+◌, ◌<◌, ◌⊎◌, ◌&&◌, not, if◌then◌else◌, List, Option, None, Some}
use Rattle.msp_encode.specs.declared.registers.TheConstants.{SP}
use Rattle.msp_encode.specs.declared.instr.Op2.{Op2}
use Rattle.msp_encode.specs.declared.instr.Op1.{Op1}
use Rattle.msp_encode.specs.declared.instr.Op1.TheVariants.{Rrc, Swpb, Rra, Sxt, Push, Call}
use Rattle.msp_encode.specs.declared.instr.Width.{Width}
use Rattle.msp_encode.specs.declared.instr.Width.TheVariants.{Wide}
use Rattle.msp_encode.specs.declared.instr.Src.{Src}
use Rattle.msp_encode.specs.declared.instr.Dst.{Dst}
use Rattle.msp_encode.specs.declared.instr.Instr.{Instr}
use Rattle.msp_encode.specs.declared.instr.Instr.TheVariants as instr
use Rattle.msp_encode.specs.Forms.{writes, is_immediate}
use Rattle.machine_model.specs.Context.{reg}
use Rattle.machine_model.specs.Operands.{sum_of, after_source}
use Rattle.code_model.specs.declared.object.Object.{Object}
use Rattle.code_model.specs.declared.parts.RelKind.{RelKind}
use Rattle.code_model.specs.Fields.{fields}
use Rattle.load_model.specs.Domains.{Domain}
use Rattle.insert_model.specs.declared.aim.Aim.{Aim}
use Rattle.insert_model.specs.declared.aim.Aim.TheVariants.{ToPc, ToSp, ToMemory, Elsewhere}
use Rattle.insert_model.specs.declared.line.Line.{Line}
use Rattle.insert_model.specs.declared.piece.Piece.{Piece}
use Rattle.insert_model.specs.Source.{own}
use Rattle.insert_model.specs.Units.{static_bytes, aim, aim_one, is_popped, is_pc}
use Rattle.unit_laws.specs.Rows.{IsOut, new_sp}
use Rattle.placed_unit_laws.specs.Placed.{word_in_place, placed_src}
use Rattle.kernel_model.specs.declared.entries.TheConstants.{CALLS, GOES, STACK_FAULT, STORE_FAULT}

pub data Check : Type 0 where
  Unchecked : Check
  -- of the address that register n and the word x make, with its relocation; n is 3 for an absolute address
  OfStore : (n x : ℕ) → Option RelKind → Check
  OfGrowth : Check
  OfPop : Check
  -- of the value that an operation gives SP
  OfSp : Op2 → Width → Src → Option RelKind → Check

abbrev pub check_of_aim : Op2 → Width → Src → Option RelKind → Aim → Check
check_of_aim op w s k ToPc = Unchecked
check_of_aim op w s k ToSp = OfSp op w s k
check_of_aim op w s k (ToMemory n x j) = OfStore n x j
check_of_aim op w s k Elsewhere = Unchecked

abbrev pub check_of_two : (size : ℕ) → Op2 → Width → Src → Dst → Piece → Check
check_of_two size op w s t p = if is_popped s then OfPop else (if writes op then check_of_aim op w s p.source (aim size t p.destination) else Unchecked)

abbrev pub check_of_operand : Aim → Check
check_of_operand ToPc = Unchecked
check_of_operand ToSp = Unchecked
check_of_operand (ToMemory n x k) = OfStore n x k
check_of_operand Elsewhere = Unchecked

abbrev pub check_of_one : (size : ℕ) → Op1 → Src → Piece → Check
check_of_one size Rrc s p = check_of_operand (aim_one size s p.source)
check_of_one size Swpb s p = check_of_operand (aim_one size s p.source)
check_of_one size Rra s p = check_of_operand (aim_one size s p.source)
check_of_one size Sxt s p = check_of_operand (aim_one size s p.source)
check_of_one size Push s p = OfGrowth
check_of_one size Call s p = OfGrowth

abbrev pub check_of_instr : (size : ℕ) → Piece → Instr → Check
check_of_instr size p (instr.Two op w s t) = check_of_two size op w s t p
check_of_instr size p (instr.One op w s) = check_of_one size op s p
check_of_instr size p instr.Reti = Unchecked
check_of_instr size p (instr.Jump c k) = Unchecked

-- the check in the unit of a source instruction
unfoldable pub check_of : Object → Line → Check
check_of o l = check_of_instr (static_bytes (fields o)) (own l) l.instr

-- Where it fails, beside the stack [low, top): the address is outside of the region, SP is below low + 6 or is top, or the new SP
-- is outside of [low + 6, top]
abbrev pub Fails : Object → Domain → (low top : ℕ) → (m r : List ℕ) → Check → Type 0
Fails o d low top m r Unchecked = ⊥
Fails o d low top m r (OfStore n x k) = IsOut d.lo d.hi (sum_of (word_in_place o d x k) (reg r n))
Fails o d low top m r OfGrowth = reg r SP < low + 6
Fails o d low top m r OfPop = reg r SP ≡ top
Fails o d low top m r (OfSp op w s k) = (new_sp m r op w (placed_src o d k s) < low + 6) ⊎ (top < new_sp m r op w (placed_src o d k s))

-- the entry that it fails to
abbrev pub entry_of : Check → ℕ
entry_of Unchecked = STORE_FAULT
entry_of (OfStore n x k) = STORE_FAULT
entry_of OfGrowth = STACK_FAULT
entry_of OfPop = STACK_FAULT
entry_of (OfSp op w s k) = STACK_FAULT

-- the registers as they are before the check: a source that is read before it has stepped its register
abbrev pub before_check : Object → Domain → List ℕ → Line → Check → Instr → List ℕ
before_check o d r l Unchecked i = r
before_check o d r l (OfStore n x k) i = r
before_check o d r l OfGrowth (instr.Two op w s t) = r
before_check o d r l OfGrowth (instr.One Rrc w s) = r
before_check o d r l OfGrowth (instr.One Swpb w s) = r
before_check o d r l OfGrowth (instr.One Rra w s) = r
before_check o d r l OfGrowth (instr.One Sxt w s) = r
before_check o d r l OfGrowth (instr.One Push w s) = r
before_check o d r l OfGrowth (instr.One Call w s) = after_source Wide (placed_src o d (own l).source s) r
before_check o d r l OfGrowth instr.Reti = r
before_check o d r l OfGrowth (instr.Jump c k) = r
before_check o d r l OfPop i = r
before_check o d r l (OfSp op w s k) i = after_source w (placed_src o d k s) r

-- the entry that takes a return, a computed jump or a computed call over, and the operand whose value is its target
abbrev pub handed : Instr → Option (ℕ × Src)
handed (instr.Two op w s t) = if is_pc t && not (is_immediate s) then Some (GOES, s) else None
handed (instr.One Rrc w s) = None
handed (instr.One Swpb w s) = None
handed (instr.One Rra w s) = None
handed (instr.One Sxt w s) = None
handed (instr.One Push w s) = None
handed (instr.One Call w s) = if is_immediate s then None else Some (CALLS, s)
handed instr.Reti = None
handed (instr.Jump c k) = None

-- The guards: a guard is a fixed group of words just before the instruction that it guards, or before up to four of them.
use Rattle.std.specs.Prelude.{◌≡◌, ℕ, zero, suc, ◌+◌, ◌*◌, ◌/◌, ◌%◌, ◌<◌, ◌≤◌, ◌⊎◌, ◌↔◌, List, [], ◌∷◌, length, slice_index}
use Rattle.msp_encode.specs.declared.registers.TheConstants.{CHECKED, SP}
use Rattle.msp_encode.specs.declared.instr.Src.{Src}
use Rattle.msp_encode.specs.declared.instr.Src.TheVariants as src
use Rattle.msp_encode.specs.declared.instr.Dst.{Dst}
use Rattle.msp_encode.specs.declared.instr.Dst.TheVariants as dst
use Rattle.msp_encode.specs.declared.instr.Instr.{Instr}
use Rattle.msp_encode.specs.declared.instr.Instr.TheVariants as instr
use Rattle.msp_encode.specs.Spelling.{src_words}
use Rattle.msp_encode.specs.Forms.{Writes, Changes, Stacks, Tests, IsMov, IsWide, SrcIs, DstIs, Pops}
use Rattle.code_model.specs.declared.object.Object.{Object}
use Rattle.code_model.specs.declared.parts.RelKind.TheVariants.{Lo, Hi}
use Rattle.code_model.specs.declared.guards.Reach.{Reach}
use Rattle.code_model.specs.declared.guards.Reach.TheVariants as reach
use Rattle.code_model.specs.declared.guards.GuardKind.{GuardKind}
use Rattle.code_model.specs.declared.guards.GuardKind.TheVariants as guard
use Rattle.code_model.specs.declared.guards.Slot.{Slot}
use Rattle.code_model.specs.declared.guards.Slot.TheVariants as slot
use Rattle.kernel_model.specs.declared.map.TheConstants.{STACK_LIMIT, STACK_TOP}
use Rattle.kernel_model.specs.declared.entries.TheConstants.{STACK_FAULT, STORE_FAULT}
use Rattle.kernel_model.specs.Bitmap.{Has}
use Rattle.code_model.specs.Starts.{Stands, Start}
use Rattle.code_model.specs.Relocs.{HasReloc, Unrelocated}
use Rattle.code_model.specs.Statics.{InStatic}

-- ---- the words of a guard

abbrev pub reach_bytes : Reach → ℕ
reach_bytes reach.Two = 2
reach_bytes reach.Four = 4
reach_bytes reach.Six = 6

-- the word that the region's end is added to, which takes so many bytes away
abbrev pub high_word : Reach → ℕ
high_word reach.Two = 0xFFFE
high_word reach.Four = 0xFFFC
high_word reach.Six = 0xFFFA

-- the words of a guard that keeps an address in the region
abbrev pub region_slots : ℕ → List Slot
region_slots high = slot.Word 0x4205 ∷ slot.Load ∷ slot.Word 0x5034 ∷ slot.Free ∷ slot.Word 0x9034 ∷ slot.Low ∷ slot.Word 0x2803
    ∷ slot.Word 0x9034 ∷ slot.High high ∷ slot.Word 0x2802 ∷ slot.Word 0x4030 ∷ slot.Word STORE_FAULT ∷ slot.Word 0x4502 ∷ []

abbrev pub guard_words : GuardKind → List Slot
guard_words guard.Store = region_slots 0
guard_words (guard.Wide r) = region_slots (high_word r)
guard_words guard.Load = region_slots 0
guard_words guard.Growth = slot.Word 0x4205 ∷ slot.Word 0x9211 ∷ slot.Word STACK_LIMIT ∷ slot.Word 0x2C02
    ∷ slot.Word 0x4030 ∷ slot.Word STACK_FAULT ∷ slot.Word 0x4502 ∷ []
guard_words guard.Pop = slot.Word 0x4205 ∷ slot.Word 0x9182 ∷ slot.Word STACK_TOP ∷ slot.Word 0x2002
    ∷ slot.Word 0x4030 ∷ slot.Word STACK_FAULT ∷ slot.Word 0x4502 ∷ []
guard_words guard.Sp = slot.Word 0x4205 ∷ slot.Word 0x9214 ∷ slot.Word STACK_LIMIT ∷ slot.Word 0x2803
    ∷ slot.Word 0x9482 ∷ slot.Word STACK_TOP ∷ slot.Word 0x2C02 ∷ slot.Word 0x4030 ∷ slot.Word STACK_FAULT ∷ slot.Word 0x4502 ∷ []

-- 4n04 for n 1 or 3 to 15, a MOV of a register or of 0 into R4
abbrev pub IsLoad : ℕ → Type 0
IsLoad w = (w / 4096 ≡ 4) × (w % 256 ≡ 4) × ((w / 256 % 16 ≡ 1) ⊎ (3 ≤ w / 256 % 16))

-- the word w of a place is one that the slot takes
abbrev pub Takes : Object → ℕ → ℕ → Slot → Type 0
Takes o at w (slot.Word v) = (w ≡ v) × Unrelocated o.relocs at
Takes o at w slot.Load = IsLoad w × Unrelocated o.relocs at
Takes o at w slot.Free = Unit {0}
Takes o at w slot.Low = (w ≡ 0) × HasReloc o.relocs at Lo
Takes o at w (slot.High v) = (w ≡ v) × HasReloc o.relocs at Hi

abbrev pub Fits : Object → ℕ → Slot → Type 0
Fits o at s = (at < length o.code) × Takes o at (slice_index o.code at) s

-- the words from a place on fit the slots
abbrev pub FitAll : Object → ℕ → List Slot → Type 0
FitAll o at [] = Unit {0}
FitAll o at (s ∷ ss) = Fits o at s × FitAll o (at + 1) ss

-- the source is neither @R4+ nor @SP+
abbrev pub StepsNoPointer : Src → Type 0
StepsNoPointer s = (Pops s CHECKED → ⊥) × (Pops s SP → ⊥)

-- the destination is 0(R4), and its word, at this place, isn't relocated
abbrev pub IsPlainStore : Object → ℕ → Dst → Type 0
IsPlainStore o at (dst.Indexed n x) = (n ≡ CHECKED) × (x ≡ 0) × Unrelocated o.relocs at
IsPlainStore o at _ = ⊥

abbrev pub IsAtR4 : Src → Type 0
IsAtR4 (src.Indirect n) = n ≡ CHECKED
IsAtR4 _ = ⊥

abbrev pub IsHigh : Dst → Type 0
IsHigh (dst.Reg n) = (4 ≤ n) × (n ≤ 15)
IsHigh _ = ⊥

abbrev pub IsStoreForm : Object → ℕ → Instr → Type 0
IsStoreForm o at (instr.Two op w s d) = Writes op × IsPlainStore o (at + 1 + length (src_words s)) d × StepsNoPointer s
IsStoreForm o at (instr.One op w s) = Changes op × IsAtR4 s
IsStoreForm o at _ = ⊥

abbrev pub IsGrowthForm : Instr → Type 0
IsGrowthForm (instr.One op w s) = Stacks op × StepsNoPointer s
IsGrowthForm _ = ⊥

abbrev pub IsPopForm : Instr → Type 0
IsPopForm (instr.Two op w s d) = IsMov op × IsWide w × Pops s SP × IsHigh d
IsPopForm _ = ⊥

abbrev pub IsSpForm : Instr → Type 0
IsSpForm (instr.Two op w s d) = IsMov op × IsWide w × SrcIs s CHECKED × DstIs d SP
IsSpForm _ = ⊥

-- the destination is x(R4), where x is even and at most so many bytes, and its word, at this place, isn't relocated
abbrev pub IsNearStore : ℕ → Object → ℕ → Dst → Type 0
IsNearStore most o at (dst.Indexed n x) = (n ≡ CHECKED) × (x % 2 ≡ 0) × (x ≤ most) × Unrelocated o.relocs at
IsNearStore most o at _ = ⊥

abbrev pub IsWideForm : ℕ → Object → ℕ → Instr → Type 0
IsWideForm most o at (instr.Two op w s d) = Writes op × IsNearStore most o (at + 1 + length (src_words s)) d × StepsNoPointer s
IsWideForm most o at _ = ⊥

-- a register, or an absolute operand in the static part, whose word is at this place
abbrev pub IsOwnDst : Object → ℕ → Dst → Type 0
IsOwnDst o at (dst.Reg n) = Unit {0}
IsOwnDst o at (dst.Absolute x) = InStatic o at x
IsOwnDst o at _ = ⊥

-- @R4, or @Rn+ of the register whose value the guard that begins at this place takes as the address
abbrev pub IsLoadSrc : Object → ℕ → Src → Type 0
IsLoadSrc o first (src.Indirect n) = n ≡ CHECKED
IsLoadSrc o first (src.AutoInc n) = (6 ≤ n) × (n ≤ 15) × (slice_index o.code (first + 1) ≡ 0x4004 + 256 * n) × (slice_index o.code (first + 3) ≡ 0) × Unrelocated o.relocs (first + 3)
IsLoadSrc o first _ = ⊥

abbrev pub IsLoadForm : Object → (first at : ℕ) → Instr → Type 0
IsLoadForm o first at (instr.Two op w s d) = (IsLoadSrc o first s × IsOwnDst o (at + 1 + length (src_words s)) d)
    ⊎ (Tests op × IsPlainStore o (at + 1 + length (src_words s)) d × StepsNoPointer s)
IsLoadForm o first at _ = ⊥

-- ---- what a guard serves

-- an instruction at a place that a guard may stand before, where the guard begins at `first`
abbrev pub Serves : GuardKind → Object → (first at : ℕ) → Instr → Type 0
Serves guard.Store o first at i = IsStoreForm o at i
Serves (guard.Wide r) o first at i = IsWideForm (reach_bytes r) o at i
Serves guard.Load o first at i = IsLoadForm o first at i
Serves guard.Growth o first at i = IsGrowthForm i
Serves guard.Pop o first at i = IsPopForm i
Serves guard.Sp o first at i = IsSpForm i

-- how many instructions a guard may serve
abbrev pub most_served : GuardKind → ℕ
most_served (guard.Wide r) = 4
most_served _ = 1

-- the version of the form from which on there is such a guard
abbrev pub least_version : GuardKind → ℕ
least_version (guard.Wide r) = 2
least_version guard.Load = 2
least_version _ = 1

-- the instruction at a place serves a guard that begins at `first`
pub record ServesAt (g : GuardKind) (o : Object) (first at : ℕ) : Type 0 where
  pub instr : Instr
  pub words : ℕ
  pub stands : Stands o.code at instr words
  pub serves : Serves g o first at instr

-- so many instructions that serve the guard stand between its end and a place
abbrev pub Run : GuardKind → Object → (first base count at : ℕ) → Type 0
Run g o first base zero at = at ≡ base
Run g o first base (suc k) at = (from : ℕ) × Run g o first base k from × ((s : ServesAt g o first from) × (at ≡ from + s.words))

-- the instruction at a start is one that a guard serves: the guard's words end just before it, or just before others that it serves
pub record Guarded (o : Object) (at : ℕ) (g : GuardKind) : Type 0 where
  pub start : Start o.code at
  pub first : ℕ
  pub base : ℕ
  pub ends : first + length (guard_words g) ≡ base
  pub begins : Start o.code first
  pub fit : FitAll o first (guard_words g)
  pub known : least_version g ≤ o.version
  pub before : ℕ
  pub few : before < most_served g
  pub run : Run g o first base before at
  pub instr : Instr
  pub words : ℕ
  pub stands : Stands o.code at instr words
  pub serves : Serves g o first at instr

-- a guard begins before `at` and guards what stands at `guarded`
unfoldable pub CoversBy : (o : Object) (at guarded : ℕ) (g : GuardKind) → Type 0
CoversBy o at guarded g = (h : Guarded o guarded g) × (h.first < at)

unfoldable pub Covers : (o : Object) (at guarded : ℕ) → Type 0
Covers o at guarded = (g : GuardKind) × CoversBy o at guarded g

-- a guard begins before `at` and guards what stands there or behind
unfoldable pub Covered : Object → ℕ → Type 0
Covered o at = (guarded : ℕ) × (at ≤ guarded) × Covers o at guarded

-- a place among the words of a guard of an instruction, the first included
unfoldable pub OwnBy : (o : Object) (at guarded : ℕ) (g : GuardKind) → Type 0
OwnBy o at guarded g = (h : Guarded o guarded g) × ((h.first ≤ at) × (at < h.base))

-- a place among a guard's own words
unfoldable pub Own : Object → ℕ → Type 0
Own o at = (guarded : ℕ) × ((g : GuardKind) × OwnBy o at guarded g)

-- a start among a guard's words after its first, or a guarded instruction
abbrev pub Interior : Object → ℕ → Type 0
Interior o at = Start o.code at × Covered o at

abbrev pub UnitStart : Object → ℕ → Type 0
UnitStart o at = Start o.code at × (Interior o at → ⊥)

-- the marks are the unit starts
abbrev pub AreUnits : Object → List ℕ → Type 0
AreUnits o marks = (at : ℕ) → Has marks at ↔ UnitStart o at

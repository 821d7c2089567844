-- Where running the unit of a source instruction ends.
use Rattle.std.specs.Prelude.{◌≡◌, ◌≢◌, ℕ, ◌+◌, ◌*◌, ◌%◌, ◌≤◌, ◌⊎◌, List, [], map, length, Option, None, Some}
use Rattle.std.specs.List.{All, Any, Contains}
use Rattle.msp_encode.specs.declared.registers.TheConstants.{PC, SP}
use Rattle.msp_encode.specs.declared.instr.Op1.TheVariants.{Call}
use Rattle.msp_encode.specs.declared.instr.Width.{Width}
use Rattle.msp_encode.specs.declared.instr.Width.TheVariants.{Wide}
use Rattle.msp_encode.specs.declared.instr.Src.{Src}
use Rattle.msp_encode.specs.declared.instr.Src.TheVariants as src
use Rattle.msp_encode.specs.declared.instr.Instr.{Instr}
use Rattle.msp_encode.specs.declared.instr.Instr.TheVariants as instr
use Rattle.machine_model.specs.Memory.{word_at, IsMemory}
use Rattle.machine_model.specs.Context.{reg, set_reg, IsContext}
use Rattle.machine_model.specs.Does.{does, target}
use Rattle.machine_model.specs.Operands.{source_value, stored}
use Rattle.code_model.specs.declared.object.Object.{Object}
use Rattle.code_model.specs.Fields.{fields}
use Rattle.code_model.specs.Starts.{Start}
use Rattle.load_model.specs.Domains.{Domain}
use Rattle.load_model.specs.Images.{code_image}
use Rattle.load_model.specs.Standing.{HasBytes}
use Rattle.node_model.specs.Placed.{IsWellPlaced}
use Rattle.insert_model.specs.declared.line.Line.{Line}
use Rattle.msp_encode.specs.Spelled.{count}
use Rattle.msp_encode.specs.Forms.{DstIs, IsCall}
use Rattle.insert_model.specs.Source.{lines, own}
use Rattle.insert_model.specs.Groups.{Group, alone, members, behind, groups}
use Rattle.insert_model.specs.Faults.{IsInserted, IsSourceJump, IsSourceCall}
use Rattle.insert_laws.specs.Lines.{group_words}
use Rattle.insert_laws.specs.Shapes.{IsCleanLine}
use Rattle.unit_laws.specs.Guards.{WordsAt}
use Rattle.unit_laws.specs.Running.{IsInside}
use Rattle.unit_laws.specs.Frame.{spread}
use Rattle.unit_laws.specs.Groups.{WorksUnit}
use Rattle.unit_laws.specs.Rows.{Follows, Hands, Halts, SameButPc}
use Rattle.placed_unit_laws.specs.Placed.{unit_address, unit_at, unit_behind, placed_word, placed_src, placed, source_does, source_after}
use Rattle.placed_unit_laws.specs.Checks.{check_of, Fails, entry_of, before_check, handed}
use Rattle.kernel_model.specs.declared.entries.TheConstants.{STORE_FAULT}
use Rattle.kernel_model.specs.declared.map.TheConstants.{CODE_POOL_END, STACK_LIMIT, STACK_TOP}

-- A domain's object, made from o, was placed, its code's bytes are in memory with the two limit words of a stack [low, top), and PC
-- is at the unit of a group of source instructions. Each context that is good for the domain is a context.
pub record IsAtUnit (o : Object) (d : Domain) (low top : ℕ) (m r : List ℕ) (g : Group) : Type 0 where
  pub group : Contains (groups (fields o)) g
  pub placed : IsWellPlaced d
  pub memory : IsMemory m
  pub code : HasBytes m d.code_lo (code_image d)
  pub limit : word_at m STACK_LIMIT ≡ low + 6
  pub last : word_at m STACK_TOP ≡ top
  pub context : IsContext r
  pub pc : reg r PC ≡ unit_at o d g.head

-- ---- where a unit leads

-- the instruction names an offset, or an address
abbrev pub SrcNames : Src → ℕ → Type 0
SrcNames (src.Immediate v) x = v ≡ x
SrcNames (src.Reg n) x = ⊥
SrcNames (src.Indexed n v) x = ⊥
SrcNames (src.Symbolic v) x = ⊥
SrcNames (src.Absolute v) x = ⊥
SrcNames (src.Indirect n) x = ⊥
SrcNames (src.AutoInc n) x = ⊥
SrcNames (src.Const c) x = ⊥

abbrev pub Names : (at : ℕ) → Instr → ℕ → Type 0
Names at (instr.Two op w s t) x = SrcNames s x
Names at (instr.One op w s) x = SrcNames s x
Names at instr.Reti x = ⊥
Names at (instr.Jump c k) x = target (2 * at) k ≡ x

-- a start that the instruction names, and the address of its unit
unfoldable pub IsTargetUnit : Object → Domain → Line → ℕ → Type 0
IsTargetUnit o d l a = (t : ℕ) × Start o.code t × Names l.at l.instr (2 * t) × (a ≡ unit_address o d (2 * t))

-- an entry that it names
abbrev pub IsNamedEntry : Object → Line → ℕ → Type 0
IsNamedEntry o l a = Names l.at l.instr a × (IsSourceJump o.kind a ⊎ IsSourceCall o.kind a)

-- the next unit, the unit of the target, or the entry that the instruction names
abbrev pub Lands : Object → Domain → Line → ℕ → Type 0
Lands o d l a = (a ≡ unit_behind o d l) ⊎ (IsTargetUnit o d l a ⊎ IsNamedEntry o l a)

-- ---- how it ends

-- The run does what the source instruction does, but for R4 and R5, and leads to a unit or an entry that is named
pub record EndsWell (o : Object) (d : Domain) (m r : List ℕ) (l : Line) : Type 0 where
  pub follows : Follows m r (unit_at o d l) (unit_behind o d l) (source_does o d m r l)
  pub lands : Lands o d l (reg (source_does o d m r l).context PC)

-- by the entry that takes over, if one does: R4 has the target's value, and all but R4, R5 and PC is as the source instruction
-- leaves it
abbrev pub EndsBy : Object → Domain → (m r : List ℕ) → Line → Option (ℕ × Src) → Type 0
EndsBy o d m r l None = EndsWell o d m r l
EndsBy o d m r l (Some h) = Hands m r (unit_at o d l) (unit_behind o d l) (source_does o d m r l) h.0 (source_value Wide (placed_src o d (own l).source h.1) 0 m r)

-- the check fails and the unit ends at its entry with nothing written, and all but PC, R4, R5 and the four flags as before the
-- check, or it doesn't fail
pub data UnitEnds (o : Object) (d : Domain) (low top : ℕ) (m r : List ℕ) (l : Line) : Type 0 where
  Halted : Fails o d low top m r (check_of o l) → Halts m r (unit_at o d l) (unit_behind o d l) (entry_of (check_of o l)) (before_check o d r l (check_of o l) l.instr) → UnitEnds o d low top m r l
  Done : (Fails o d low top m r (check_of o l) → ⊥) → EndsBy o d m r l (handed l.instr) → UnitEnds o d low top m r l

-- the address behind a group's unit
abbrev pub group_behind : Object → Domain → Group → ℕ
group_behind o d g = unit_address o d (2 * behind g)

-- the address of a store of the group is outside of the region
abbrev pub AnyFails : Object → Domain → (low top : ℕ) → (m r : List ℕ) → Group → Type 0
AnyFails o d low top m r g = Any (λ (l : Line). Fails o d low top m r (check_of o l)) (members g)

-- The run does what the source instructions do, one after another, but for R4 and R5, and leads to the next unit
pub record Works (o : Object) (d : Domain) (m r : List ℕ) (g : Group) : Type 0 where
  pub x : ℕ
  pub y : ℕ
  pub runs : WorksUnit m r (unit_at o d g.head) (group_behind o d g) (source_after o d m r (members g)).0 (spread (source_after o d m r (members g)).1 x y)
  pub lands : reg (source_after o d m r (members g)).1 PC ≡ group_behind o d g

-- Where an address that its guard tests is outside of the region, the unit of a group of stores ends at the store fault with
-- nothing written; else it does them all
pub data GroupEnds (o : Object) (d : Domain) (low top : ℕ) (m r : List ℕ) (g : Group) : Type 0 where
  Stopped : AnyFails o d low top m r g → Halts m r (unit_at o d g.head) (group_behind o d g) STORE_FAULT r → GroupEnds o d low top m r g
  Worked : (AnyFails o d low top m r g → ⊥) → Works o d m r g → GroupEnds o d low top m r g

-- the words of a group's unit in memory
pub record UnitStands (o : Object) (d : Domain) (m : List ℕ) (g : Group) : Type 0 where
  pub clean : All (IsCleanLine o) (members g)
  pub words : WordsAt m (unit_at o d g.head) 0 (map (placed_word o d) (group_words o g))
  pub behind : group_behind o d g ≡ unit_at o d g.head + 2 * length (group_words o g)
  pub even : unit_at o d g.head % 2 ≡ 0
  pub below : group_behind o d g ≤ CODE_POOL_END
  -- no start's unit begins within this one
  pub apart : (t : ℕ) → Start o.code t → IsInside (unit_at o d g.head) (group_behind o d g) (unit_address o d (2 * t)) → ⊥

-- ---- where a source instruction stands

-- an instruction that leads to the next one, and pushes no address
abbrev pub StaysInLine : Instr → Type 0
StaysInLine (instr.Two op w s t) = DstIs t PC → ⊥
StaysInLine (instr.One op w s) = IsCall op → ⊥
StaysInLine instr.Reti = ⊥
StaysInLine (instr.Jump c k) = ⊥

-- ---- what holds of an object, wherever it is placed, at the unit of each group of instructions of the source o

-- the run of an instruction's own unit ends in one of these ways
abbrev pub UnitsEnd : (o q : Object) → Type 0
UnitsEnd o q = (d : Domain) (low top : ℕ) (m r : List ℕ) (l : Line) → d.object ≡ q → IsAtUnit o d low top m r (alone l) → UnitEnds o d low top m r l

-- and that of a group of several in one of these
abbrev pub GroupsEnd : (o q : Object) → Type 0
GroupsEnd o q = (d : Domain) (low top : ℕ) (m r : List ℕ) (g : Group) → d.object ≡ q → IsAtUnit o d low top m r g → g.rest ≢ [] → GroupEnds o d low top m r g

-- what a call pushes is the address of the next unit
abbrev pub CallsPush : (o q : Object) → Type 0
CallsPush o q = (d : Domain) (low top : ℕ) (m r : List ℕ) (l : Line) (w : Width) (s : Src) → d.object ≡ q → IsAtUnit o d low top m r (alone l)
    → l.instr ≡ instr.One Call w s → (source_does o d m r l).written ≡ stored Wide (reg (source_does o d m r l).context SP) (unit_behind o d l)

-- its words stand where the place map says
abbrev pub UnitsStand : (o q : Object) → Type 0
UnitsStand o q = (d : Domain) (low top : ℕ) (m r : List ℕ) (g : Group) → d.object ≡ q → IsAtUnit o d low top m r g → UnitStands o d m g

-- and a source instruction, if it leads to the next one and pushes no address, does the same wherever it stands, but for PC
abbrev pub SourcesHide : (o q : Object) → Type 0
SourcesHide o q = (d : Domain) (m r : List ℕ) (l : Line) (p : ℕ) → d.object ≡ q → IsWellPlaced d → Contains (lines (fields o)) l → IsContext r → StaysInLine l.instr
    → SameButPc (source_does o d m r l) (does m (set_reg r PC p) (placed o d (own l)) (count l.instr))

-- ---- the laws: all of it holds of the object that o has with guards

abbrev pub UnitEndsLaw : Type 0
UnitEndsLaw = (o q : Object) → IsInserted o q → UnitsEnd o q

abbrev pub GroupEndsLaw : Type 0
GroupEndsLaw = (o q : Object) → IsInserted o q → GroupsEnd o q

abbrev pub PushedLaw : Type 0
PushedLaw = (o q : Object) → IsInserted o q → CallsPush o q

abbrev pub UnitStandsLaw : Type 0
UnitStandsLaw = (o q : Object) → IsInserted o q → UnitsStand o q

abbrev pub SourcePlaceLaw : Type 0
SourcePlaceLaw = (o q : Object) → IsInserted o q → SourcesHide o q

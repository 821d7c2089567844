-- The shape of the pieces of an object with guards: free pieces, and guards with what they guard.
use Rattle.std.specs.Prelude.{◌≡◌, ℕ, ◌%◌, ◌<◌, ◌≤◌, ◌⊎◌, List, [], ◌∷◌, ◌++◌, length, Option, None}
use Rattle.std.specs.List.{AllByRecursion}
use Rattle.msp_encode.specs.declared.registers.TheConstants.{PC, SP, SR, CHECKED, KEPT_STATUS}
use Rattle.msp_encode.specs.declared.instr.Op2.TheVariants.{Mov}
use Rattle.msp_encode.specs.declared.instr.Width.TheVariants.{Wide}
use Rattle.msp_encode.specs.declared.instr.Src.TheVariants as src
use Rattle.msp_encode.specs.declared.instr.Dst.TheVariants as dst
use Rattle.msp_encode.specs.declared.instr.Instr.{Instr}
use Rattle.msp_encode.specs.declared.instr.Instr.TheVariants as instr
use Rattle.code_model.specs.declared.parts.RelKind.{RelKind}
use Rattle.code_model.specs.declared.guards.Reach.{Reach}
use Rattle.code_model.specs.declared.guards.GuardKind.{GuardKind}
use Rattle.code_model.specs.declared.guards.GuardKind.TheVariants as guard
use Rattle.code_model.specs.Guards.{reach_bytes, StepsNoPointer, IsAtR4, IsGrowthForm, IsPopForm, IsSpForm, most_served, least_version}
use Rattle.msp_encode.specs.Spelling.{InstrFits}
use Rattle.msp_encode.specs.Forms.{Writes, Changes, IsReti, WritesReg}
use Rattle.code_model.specs.declared.object.Object.{Object}
use Rattle.code_model.specs.Rules.{IsBranch, WritesMemory, ReadsStack, IsPushOrCall}
use Rattle.insert_model.specs.declared.line.Line.{Line}
use Rattle.insert_model.specs.declared.piece.Piece.{Piece}
use Rattle.insert_model.specs.Faults.{UsesCheck, ChangesFlags, IsForbidden, GoesWrong}
use Rattle.insert_model.specs.Guards.{store_guard, wide_guard, growth_guard, pop_guard, sp_guard}

-- `MOV SR,R5`, with which each guard begins
abbrev pub saving : Instr
saving = instr.Two Mov Wide (src.Reg SR) (dst.Reg KEPT_STATUS)

-- the pieces of a store guard
pub record IsStoreGuard (gs : List Piece) : Type 0 where
  pub base : ℕ
  pub index : ℕ
  pub kind : Option RelKind
  pub below : base < 16
  pub register : (base ≡ 1) ⊎ (3 ≤ base)
  pub are : gs ≡ store_guard base index kind

-- those of a wide guard
pub record IsWideGuard (r : Reach) (gs : List Piece) : Type 0 where
  pub base : ℕ
  pub index : ℕ
  pub kind : Option RelKind
  pub below : base < 16
  pub register : (base ≡ 1) ⊎ (3 ≤ base)
  pub are : gs ≡ wide_guard r base index kind

-- no unit has a load guard
abbrev pub IsGuard : GuardKind → List Piece → Type 0
IsGuard guard.Store gs = IsStoreGuard gs
IsGuard (guard.Wide r) gs = IsWideGuard r gs
IsGuard guard.Load gs = ⊥
IsGuard guard.Growth gs = gs ≡ growth_guard
IsGuard guard.Pop gs = gs ≡ pop_guard
IsGuard guard.Sp gs = gs ≡ sp_guard

-- a store through 0(R4) whose index isn't relocated, or an operation on @R4
abbrev pub IsThroughR4 : Option RelKind → Instr → Type 0
IsThroughR4 k (instr.Two op w s d) = Writes op × (d ≡ dst.Indexed CHECKED 0) × (k ≡ None) × StepsNoPointer s
IsThroughR4 k (instr.One op w s) = Changes op × IsAtR4 s
IsThroughR4 k instr.Reti = ⊥
IsThroughR4 k (instr.Jump c n) = ⊥

-- a store through x(R4), where x isn't relocated, even and at most so many bytes
abbrev pub IsNearR4 : ℕ → Option RelKind → Instr → Type 0
IsNearR4 most k (instr.Two op w s d) = Writes op × ((x : ℕ) × ((d ≡ dst.Indexed CHECKED x) × ((x % 2 ≡ 0) × (x ≤ most)))) × (k ≡ None) × StepsNoPointer s
IsNearR4 most k _ = ⊥

-- a piece that a guard of this kind may stand before
abbrev pub IsServed : GuardKind → Piece → Type 0
IsServed guard.Store p = IsThroughR4 p.destination p.instr
IsServed (guard.Wide r) p = IsNearR4 (reach_bytes r) p.destination p.instr
IsServed guard.Load p = ⊥
IsServed guard.Growth p = IsGrowthForm p.instr
IsServed guard.Pop p = IsPopForm p.instr
IsServed guard.Sp p = IsSpForm p.instr

-- a guard that a version knows, and pieces that it serves, one behind another
pub record IsGuarding (version : ℕ) (g : GuardKind) (gs ss : List Piece) : Type 0 where
  pub known : least_version g ≤ version
  pub is : IsGuard g gs
  pub few : length ss ≤ most_served g
  pub each : AllByRecursion (IsServed g) ss

-- guards with what they guard, one piece at least, and pieces that meet a fact
pub data Shaped (F : Piece → Type 0) (version : ℕ) : List Piece → Type 0 where
  Ends : (xs : List Piece) → xs ≡ [] → Shaped F version xs
  Free : (xs : List Piece) (p : Piece) (ps : List Piece) → xs ≡ p ∷ ps → F p → Shaped F version ps → Shaped F version xs
  Guards : (xs : List Piece) (g : GuardKind) (gs : List Piece) (p : Piece) (more ps : List Piece) → xs ≡ gs ++ (p ∷ (more ++ ps)) → IsGuarding version g gs (p ∷ more) → Shaped F version ps
      → Shaped F version xs

-- no rule on forms asks for a guard
pub record IsFreeForm (p : Piece) : Type 0 where
  pub no_reti : IsReti p.instr → ⊥
  pub pc : WritesReg p.instr PC → IsBranch p.instr
  pub no_sp : WritesReg p.instr SP → ⊥
  pub no_memory : WritesMemory p.instr → ⊥
  pub no_pop : ReadsStack p.instr → ⊥
  pub no_push : IsPushOrCall p.instr → ⊥
  pub no_save : p.instr ≡ saving → ⊥
  -- SR is written by flags alone, which aren't relocated
  pub sr : WritesReg p.instr SR → (ChangesFlags p.instr p.source → ⊥) → ⊥

-- a source instruction that nothing is wrong with
pub record IsCleanLine (o : Object) (l : Line) : Type 0 where
  pub fits : InstrFits l.instr
  pub free : UsesCheck l.instr → ⊥
  pub allowed : IsForbidden l → ⊥
  pub lands : GoesWrong o l → ⊥

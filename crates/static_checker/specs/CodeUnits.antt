-- The units of the code: an instruction that no guard guards, or a guard with what it guards.
use Rattle.std.specs.Prelude.{◌≡◌, ◌⊎◌, ℕ, ◌+◌, ◌<◌, ◌≤◌, ◌↔◌, Option, None, Some, length}
use Rattle.msp_encode.specs.declared.registers.TheConstants.{SP}
use Rattle.msp_encode.specs.declared.instr.Dst.TheVariants as dst
use Rattle.msp_encode.specs.declared.instr.Instr.{Instr}
use Rattle.msp_encode.specs.declared.instr.Instr.TheVariants as instr
use Rattle.msp_encode.specs.Forms.{Pops, IsCall}
use Rattle.code_model.specs.declared.object.Object.{Object}
use Rattle.code_model.specs.declared.guards.GuardKind.{GuardKind}
use Rattle.code_model.specs.declared.guards.GuardKind.TheVariants as guard
use Rattle.code_model.specs.declared.rules.Rule.{Rule}
use Rattle.code_model.specs.Starts.{Stands, Start}
use Rattle.code_model.specs.Guards.{guard_words, FitAll, Serves, least_version, Run, Guarded, Own, Interior, UnitStart}
use Rattle.code_model.specs.Rules.{IsBranch, KeepsStores, Refuses}
use Rattle.static_checker.specs.declared.spot.Spot.{Spot}
use Rattle.static_checker.specs.declared.code_units.CodeUnit.{CodeUnit}
use Rattle.static_checker.specs.Spots.{IsSpot, IsStartSpot}
use Rattle.static_checker.specs.Firsts.{IsLocal}

-- no guard of this kind begins at a place
unfoldable pub NoGuardFrom : Object → ℕ → GuardKind → Type 0
NoGuardFrom o at g = (guarded : ℕ) (h : Guarded o guarded g) → h.first ≡ at → ⊥

-- the kind that a guard's words tell: a load guard has a store guard's
abbrev pub wording : GuardKind → GuardKind
wording guard.Load = guard.Store
wording g = g

-- a guard that begins at a place has the words of this kind
unfoldable pub OnlyKind : Object → ℕ → GuardKind → Type 0
OnlyKind o at k = (guarded : ℕ) (g : GuardKind) (h : Guarded o guarded g) → h.first ≡ at → wording g ≡ k

-- a guard of kind g with the words of kind k, which the object's version has, serves an instruction
pub record IsServing (k : GuardKind) (o : Object) (first at : ℕ) (i : Instr) (g : GuardKind) : Type 0 where
  pub words : wording g ≡ k
  pub known : least_version g ≤ o.version
  pub serves : Serves g o first at i

-- the spot tells of an instruction at a place that a guard serves which begins at `first`
pub record IsServedSpot (g : GuardKind) (o : Object) (first at : ℕ) (s : Spot) : Type 0 where
  pub is : IsSpot o.code at s
  pub serves : Serves g o first at s.instr

-- what guards the instruction at a place, if anything does
unfoldable pub IsGuardOf : Object → ℕ → Option GuardKind → Type 0
IsGuardOf o at guard = (g : GuardKind) → Guarded o at g ↔ (guard ≡ Some g)

-- there is a guard, and it keeps stores in the region
abbrev pub IsStoreGuard : Option GuardKind → Type 0
IsStoreGuard None = ⊥
IsStoreGuard (Some g) = KeepsStores g

-- each guard that begins before a place guards nothing there or behind
unfoldable pub NoGuardAcross : Object → ℕ → Type 0
NoGuardAcross o at = (guarded : ℕ) (g : GuardKind) (h : Guarded o guarded g) → h.first < at → guarded < at

-- but for this one
unfoldable pub OneGuardAcross : Object → GuardKind → (first at : ℕ) → Type 0
OneGuardAcross o g first at = (guarded : ℕ) (k : GuardKind) (h : Guarded o guarded k) → h.first < at → (guarded < at) ⊎ ((k ≡ g) × (h.first ≡ first))

-- the guard that begins at `first` serves so many instructions before a place, and no other guard goes on over it
pub record HasServed (o : Object) (g : GuardKind) (first count at : ℕ) : Type 0 where
  pub begins : Start o.code first
  pub fit : FitAll o first (guard_words g)
  pub known : least_version g ≤ o.version
  pub run : Run g o first (first + length (guard_words g)) count at
  pub one : OneGuardAcross o g first at

-- the guard at `first`, if there is one, has served so many instructions before a place, and no other goes on over it
abbrev pub IsBehind : Object → (first : ℕ) → Option GuardKind → (served at : ℕ) → Type 0
IsBehind o first None served at = NoGuardAcross o at
IsBehind o first (Some g) served at = HasServed o g first served at

-- an instruction that is none of a guard's own, with what guards it
pub record IsUnitSpot (o : Object) (p : CodeUnit) : Type 0 where
  pub is : IsStartSpot o.code p.spot
  pub guard : IsGuardOf o p.spot.at p.guard
  pub free : Own o p.spot.at → ⊥

-- the next such instruction from a place on: before it stand its guard's own words, if any do
pub record IsNextInstr (o : Object) (at : ℕ) (p : CodeUnit) : Type 0 where
  pub here : IsUnitSpot o p
  pub order : at ≤ p.spot.at
  pub each : (k : ℕ) → Start o.code k → at ≤ k → k < p.spot.at + p.spot.words → Interior o k ⊎ UnitStart o k
  pub quiet : (k : ℕ) (r : Rule) → at ≤ k → k < p.spot.at → IsLocal r → Refuses r o k → ⊥
  pub own : (k : ℕ) → Start o.code k → at ≤ k → k < p.spot.at → Own o k

-- a unit begins at a place, and this is its first instruction that is none of a guard's own
pub record IsCodeUnit (o : Object) (at : ℕ) (p : CodeUnit) : Type 0 where
  pub next : IsNextInstr o at p
  pub starts : UnitStart o at
  pub inner : (k : ℕ) → Start o.code k → at < k → k < p.spot.at + p.spot.words → Interior o k
  pub behind : IsBehind o at p.guard 1 (p.spot.at + p.spot.words)

-- the next instruction that the guard at `first` serves, where it has served so many before a place
pub record IsNextServed (o : Object) (first served at : ℕ) (p : CodeUnit) : Type 0 where
  pub next : IsNextInstr o at p
  pub inner : (k : ℕ) → Start o.code k → at ≤ k → k < p.spot.at + p.spot.words → Interior o k
  pub behind : IsBehind o first p.guard (served + 1) (p.spot.at + p.spot.words)

-- an instruction that writes none but the registers from R4 on, and doesn't read the stack, or a jump
abbrev pub IsPlain : Instr → Type 0
IsPlain (instr.Two op w s (dst.Reg n)) = (4 ≤ n) × (Pops s SP → ⊥)
IsPlain (instr.Jump c k) = Unit {0}
IsPlain _ = ⊥

-- an instruction whose operand may name a place that is gone to
abbrev pub IsTransfer : Instr → Type 0
IsTransfer (instr.Two op w s d) = IsBranch (instr.Two op w s d)
IsTransfer (instr.One op w s) = IsCall op
IsTransfer (instr.Jump c k) = Unit {0}
IsTransfer instr.Reti = ⊥

-- such an instruction starts at a place, and is none of a guard's own
pub record TransferAt (o : Object) (at : ℕ) : Type 0 where
  pub start : Start o.code at
  pub instr : Instr
  pub words : ℕ
  pub stands : Stands o.code at instr words
  pub is_transfer : IsTransfer instr
  pub free : Own o at → ⊥

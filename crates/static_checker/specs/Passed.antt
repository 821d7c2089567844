-- What the pass over the code has found.
use Rattle.std.specs.Prelude.{◌*◌, ◌-◌, ℕ, ◌<◌, ◌≤◌, ◌↔◌, ◌⊎◌, List, length}
use Rattle.code_model.specs.declared.object.Object.{Object}
use Rattle.kernel_model.specs.Bitmap.{Has}
use Rattle.code_model.specs.Starts.{Reached, Start}
use Rattle.code_model.specs.Guards.{Interior, UnitStart, AreUnits}
use Rattle.code_model.specs.Verdicts.{AllSpelled}
use Rattle.static_checker.specs.declared.pass.Pass.{Pass}
use Rattle.static_checker.specs.Cursors.{IsCursor}
use Rattle.static_checker.specs.Firsts.{IsLocal, FirstIn}
use Rattle.static_checker.specs.CodeUnits.{NoGuardAcross, TransferAt}
use Rattle.static_checker.specs.Advances.{BegunAt, seen}

-- the walk over the starts comes to a place
pub record IsReached (code : List ℕ) (at : ℕ) : Type 0 where
  pub count : ℕ
  pub reached : Reached code count at
  pub within : at ≤ length code

-- what the pass has found is so of the places before its own
pub record IsGone (o : Object) (p : Pass) : Type 0 where
  pub cursor : IsCursor o.relocs p.cursor
  pub reached : IsReached o.code p.cursor.at
  pub transfers : (k : ℕ) → Has p.transfers k ↔ (TransferAt o k × (k < p.cursor.at))
  pub each : (k : ℕ) → Start o.code k → k < p.cursor.at → Interior o k ⊎ UnitStart o k
  pub first : FirstIn o IsLocal 0 p.cursor.at p.first

-- the marks are the unit starts before a place
unfoldable pub UnitsBelow : Object → (marks : List ℕ) → ℕ → Type 0
UnitsBelow o marks at = (k : ℕ) → Has marks k ↔ (UnitStart o k × (k < at))

-- the pass has come to its place, behind which no guard's words go on
pub record IsPassed (o : Object) (p : Pass) : Type 0 where
  pub gone : IsGone o p
  pub units : UnitsBelow o p.units p.cursor.at
  pub clear : NoGuardAcross o p.cursor.at
  pub begun : BegunAt o p.cursor.at p.begun

-- the pass has come to the code's end
pub record IsWhole (o : Object) (p : Pass) : Type 0 where
  pub spelled : AllSpelled o
  pub units : AreUnits o p.units
  pub transfers : (k : ℕ) → Has p.transfers k ↔ TransferAt o k
  pub each : (k : ℕ) → Start o.code k → Interior o k ⊎ UnitStart o k
  pub first : FirstIn o IsLocal 0 (length o.code) p.first

-- what is left to do, a guard having at most 13 words
abbrev pub left : Object → Pass → ℕ
left o p = 15 * (length o.code - p.cursor.at) - seen p.begun

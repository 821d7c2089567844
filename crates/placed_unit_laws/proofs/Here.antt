-- A context at the unit of a group of an object with guards, and what stands where a line has its own.
use Rattle.std.proofs.Common.{◌≡◌, ℕ, ◌+◌, ◌*◌, ◌%◌, ◌≤◌, List, [], ◌∷◌, length, map, refl, sym, subst}
use Rattle.std.proofs.lemmas.List.Elements.{recursion_from_All}
use Rattle.code_model.specs.declared.object.Object.{Object}
use Rattle.code_model.specs.Starts.{Start}
use Rattle.load_model.specs.Domains.{Domain}
use Rattle.insert_model.specs.declared.line.Line.{Line}
use Rattle.insert_model.specs.Groups.{Group, alone, last_of}
use Rattle.insert_model.specs.Faults.{IsInserted}
use Rattle.insert_laws.specs.Lines.{group_words}
use Rattle.insert_laws.specs.Shapes.{IsCleanLine}
use Rattle.unit_laws.specs.Guards.{WordsAt}
use Rattle.unit_laws.specs.Running.{IsInside}
use Rattle.placed_unit_laws.specs.Placed.{unit_address, unit_at, unit_behind, placed_word}
use Rattle.placed_unit_laws.specs.Ends.{IsAtUnit, UnitStands, UnitStandsLaw}
use Rattle.kernel_model.specs.declared.map.TheConstants.{CODE_POOL_END}

-- a context at a group's unit
pub record IsHereOf (o : Object) (d : Domain) (low top : ℕ) (m r : List ℕ) (g : Group) : Type 0 where
  pub inserted : IsInserted o d.object
  pub at : IsAtUnit o d low top m r g

pub here_of : (o q : Object) → IsInserted o q → (d : Domain) (low top : ℕ) (m r : List ℕ) (g : Group) → d.object ≡ q → IsAtUnit o d low top m r g → IsHereOf o d low top m r g
here_of o q i d low top m r g e at = record { inserted = subst (IsInserted o) (sym e) i; at = at }

-- and at that of a line
abbrev pub IsHere : (o : Object) (d : Domain) (low top : ℕ) (m r : List ℕ) (l : Line) → Type 0
IsHere o d low top m r l = IsHereOf o d low top m r (alone l)

-- the words of its unit
pub record LineStands (o : Object) (d : Domain) (m : List ℕ) (l : Line) : Type 0 where
  pub clean : IsCleanLine o l
  pub words : WordsAt m (unit_at o d l) 0 (map (placed_word o d) (group_words o (alone l)))
  pub behind : unit_behind o d l ≡ unit_at o d l + 2 * length (group_words o (alone l))
  pub even : unit_at o d l % 2 ≡ 0
  pub below : unit_behind o d l ≤ CODE_POOL_END
  pub apart : (t : ℕ) → Start o.code t → IsInside (unit_at o d l) (unit_behind o d l) (unit_address o d (2 * t)) → ⊥

line_stands : (o : Object) (d : Domain) (m : List ℕ) (l : Line) → UnitStands o d m (alone l) → LineStands o d m l
unfolding last_of
line_stands o d m l u = record {
  clean = (recursion_from_All (IsCleanLine o) (l ∷ []) u.clean).0;
  words = u.words;
  behind = u.behind;
  even = u.even;
  below = u.below;
  apart = u.apart;
}

pub stands_here : UnitStandsLaw → (o : Object) (d : Domain) (low top : ℕ) (m r : List ℕ) (l : Line) → IsHere o d low top m r l → LineStands o d m l
stands_here stand o d low top m r l here = line_stands o d m l (stand o d.object here.inserted d low top m r (alone l) refl here.at)

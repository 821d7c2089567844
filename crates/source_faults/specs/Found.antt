-- Faults that come first.
use Rattle.std.specs.Prelude.{◌≡◌, ℕ, ◌≤◌, ◌⊎◌, Option, None, Some}
use Rattle.insert_model.specs.declared.fault.InsertKind.{InsertKind}
use Rattle.insert_model.specs.Faults.{number, Precedes}
use Rattle.source_faults.specs.declared.faults.Fault.{Fault}

-- the least kind of a set, or none is in it
abbrev pub IsLeastKind : (InsertKind → Type 0) → Option InsertKind → Type 0
IsLeastKind P None = (k : InsertKind) → P k → ⊥
IsLeastKind P (Some k) = P k × ((j : InsertKind) → P j → number k ≤ number j)

pub record IsFirstOf (P : InsertKind → ℕ → Type 0) (f : Fault) : Type 0 where
  pub hit : P f.kind f.offset
  pub first : (j : InsertKind) (y : ℕ) → P j y → Precedes f.kind f.offset j y

-- the first fault of a set, or none is in it
abbrev pub IsLeast : (InsertKind → ℕ → Type 0) → Option Fault → Type 0
IsLeast P None = (k : InsertKind) (x : ℕ) → P k x → ⊥
IsLeast P (Some f) = IsFirstOf P f

-- the one of two that comes first
abbrev pub IsLesser : (a b r : Option Fault) → Type 0
IsLesser None b r = r ≡ b
IsLesser (Some f) None r = r ≡ Some f
IsLesser (Some f) (Some g) r = ((r ≡ Some f) × Precedes f.kind f.offset g.kind g.offset) ⊎ ((r ≡ Some g) × Precedes g.kind g.offset f.kind f.offset)

-- The verdict on an object.
use Rattle.std.specs.Prelude.{◌≡◌, ℕ, ◌*◌, ◌<◌, ◌≤◌, ◌⊎◌, ◌↔◌, List}
use Rattle.code_model.specs.declared.object.Object.{Object}
use Rattle.code_model.specs.declared.rules.Rule.{Rule}
use Rattle.code_model.specs.declared.verdict.Verdict.{Verdict}
use Rattle.code_model.specs.declared.verdict.Verdict.TheVariants.{Accepted, Refused}
use Rattle.code_model.specs.Starts.{Start, IsSpelled, Bad}
use Rattle.kernel_model.specs.Bitmap.{Has}
use Rattle.code_model.specs.Guards.{Interior, UnitStart}
use Rattle.code_model.specs.Rules.{number, Refuses}

-- a place and a rule come first: a lesser place before a greater, and at one place a lesser rule before a greater
abbrev pub Precedes : (a : ℕ) (r : Rule) (b : ℕ) (s : Rule) → Type 0
Precedes a r b s = (a < b) ⊎ ((a ≡ b) × (number r ≤ number s))

-- the rule refuses at the place, and no rule refuses before
pub record IsLeast (o : Object) (at : ℕ) (r : Rule) : Type 0 where
  pub refuses : Refuses r o at
  pub first : (b : ℕ) (s : Rule) → Refuses s o b → Precedes at r b s

abbrev pub AllSpelled : Object → Type 0
AllSpelled o = (at : ℕ) → Start o.code at → IsSpelled o.code at

-- Nothing is refused, and the marks are the unit starts. The other fields follow by the law of the
-- excluded middle, and spare each user a proof that the definitions can be decided
pub record IsAccepted (o : Object) (marks : List ℕ) : Type 0 where
  pub none : (at : ℕ) (r : Rule) → Refuses r o at → ⊥
  pub units : (at : ℕ) → Has marks at ↔ UnitStart o at
  pub spelled : AllSpelled o
  pub each : (at : ℕ) → Start o.code at → Interior o at ⊎ UnitStart o at

-- where an instruction isn't spelled, that alone decides. Else the least place and rule do
pub record IsRefused (o : Object) (r at : ℕ) : Type 0 where
  pub why : ((r ≡ 1) × Bad o.code at) ⊎ (AllSpelled o × ((s : Rule) × (r ≡ number s) × IsLeast o at s))

abbrev pub IsVerdict : Object → Verdict → Type 0
IsVerdict o (Accepted marks) = IsAccepted o marks
IsVerdict o (Refused r place) = (at : ℕ) × (place ≡ 2 * at) × IsRefused o r at

abbrev pub IsAcceptance : Verdict → Type 0
IsAcceptance (Accepted marks) = Unit {0}
IsAcceptance (Refused r place) = ⊥

-- the same answer, with the same unit starts
abbrev pub SameVerdict : Verdict → Verdict → Type 0
SameVerdict (Accepted m) (Accepted n) = (at : ℕ) → Has m at ↔ Has n at
SameVerdict (Accepted m) (Refused s b) = ⊥
SameVerdict (Refused r a) (Accepted n) = ⊥
SameVerdict (Refused r a) (Refused s b) = (r ≡ s) × (a ≡ b)

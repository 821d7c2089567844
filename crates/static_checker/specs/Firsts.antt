-- The first refusal of some rules in some places.
use Rattle.std.specs.Prelude.{◌≡◌, ◌⊎◌, ℕ, ◌<◌, ◌≤◌, Option, None, Some}
use Rattle.code_model.specs.declared.object.Object.{Object}
use Rattle.code_model.specs.declared.rules.Rule.{Rule}
use Rattle.code_model.specs.declared.rules.Rule.TheVariants as rule
use Rattle.code_model.specs.Rules.{number, Refuses}
use Rattle.code_model.specs.Verdicts.{Precedes}
use Rattle.static_checker.specs.declared.refusal.Refusal.{Refusal}

-- the rules that an instruction and what is before it decide
abbrev pub IsLocal : Rule → Type 0
IsLocal rule.Spelled = ⊥
IsLocal rule.Target = ⊥
IsLocal rule.Jump = ⊥
IsLocal rule.Entry = ⊥
IsLocal _ = Unit {0}

-- the rules on places that are gone to
abbrev pub IsLanding : Rule → Type 0
IsLanding r = (r ≡ rule.Target) ⊎ ((r ≡ rule.Jump) ⊎ (r ≡ rule.Entry))

-- the refusal is the first of these rules from `low` to before `high`
pub record IsFirst (o : Object) (Among : Rule → Type 0) (low high : ℕ) (r : Refusal) : Type 0 where
  pub within : r.at < high
  pub of_these : Among r.rule
  pub refuses : Refuses r.rule o r.at
  pub first : (b : ℕ) (s : Rule) → low ≤ b → b < high → Among s → Refuses s o b → Precedes r.at r.rule b s

unfoldable pub NoneIn : (o : Object) (Among : Rule → Type 0) (low high : ℕ) → Type 0
NoneIn o Among low high = (b : ℕ) (s : Rule) → low ≤ b → b < high → Among s → Refuses s o b → ⊥

abbrev pub FirstIn : (o : Object) (Among : Rule → Type 0) (low high : ℕ) → Option Refusal → Type 0
FirstIn o Among low high None = NoneIn o Among low high
FirstIn o Among low high (Some r) = IsFirst o Among low high r

-- the rule is the first of these at a place, of those with a number below n
pub record IsFirstRule (o : Object) (Among : Rule → Type 0) (at : ℕ) (r : Rule) : Type 0 where
  pub of_these : Among r
  pub refuses : Refuses r o at
  pub first : (s : Rule) → Among s → Refuses s o at → number r ≤ number s

unfoldable pub NoneBelow : (o : Object) (Among : Rule → Type 0) (at n : ℕ) → Type 0
NoneBelow o Among at n = (s : Rule) → number s < n → Among s → Refuses s o at → ⊥

abbrev pub FirstBelow : (o : Object) (Among : Rule → Type 0) (at n : ℕ) → Option Rule → Type 0
FirstBelow o Among at n None = NoneBelow o Among at n
FirstBelow o Among at n (Some r) = IsFirstRule o Among at r

-- the rules that apply where each instruction is spelled
abbrev pub IsChecked : Rule → Type 0
IsChecked r = IsLocal r ⊎ IsLanding r

-- First refusals: over ranges of places, of two sets of rules, and rule by rule at a place.
use Rattle.std.proofs.Common.{◌≡◌, ℕ, ◌+◌, ◌≤◌, ◌<◌, inl, inr, Option, None, Some, sym, subst, arith}
use Rattle.std.proofs.Math.Nat.{eq-or-lt_of_le}
use Rattle.std.proofs.lemmas.Bool.{cases_lt, cases_order}
use Rattle.code_model.specs.declared.object.Object.{Object}
use Rattle.code_model.specs.declared.rules.Rule.{Rule}
use Rattle.code_model.specs.declared.rules.Rule.TheVariants as rule
use Rattle.code_model.specs.Rules.{number, Refuses}
use Rattle.code_model.specs.Verdicts.{Precedes}
use Rattle.code_laws.proofs.Numbers.{same_rule}
use Rattle.static_checker.specs.declared.refusal.Refusal.{Refusal}
use Rattle.static_checker.specs.Firsts.{IsLocal, IsLanding, IsChecked, IsFirst, NoneIn, FirstIn, IsFirstRule, NoneBelow, FirstBelow}

pub none_first : (o : Object) (Among : Rule → Type 0) (low high : ℕ) (x : Option Refusal) → x ≡ None → FirstIn o Among low high x → NoneIn o Among low high
none_first o Among low high x e = subst (λ (y : Option Refusal). FirstIn o Among low high y) e

pub some_first : (o : Object) (Among : Rule → Type 0) (low high : ℕ) (x : Option Refusal) (r : Refusal) → x ≡ Some r → FirstIn o Among low high x → IsFirst o Among low high r
some_first o Among low high x r e = subst (λ (y : Option Refusal). FirstIn o Among low high y) e

pub none_found : (o : Object) (Among : Rule → Type 0) (at n : ℕ) (x : Option Rule) → x ≡ None → FirstBelow o Among at n x → NoneBelow o Among at n
none_found o Among at n x e = subst (λ (y : Option Rule). FirstBelow o Among at n y) e

-- ---- ranges of places

pub none_at_first : (o : Object) (Among : Rule → Type 0) (at : ℕ) → NoneIn o Among at at
unfolding NoneIn
none_at_first o Among at b s low high = absurd (omega arith)

pub first_more : (o : Object) (Among : Rule → Type 0) (low mid high : ℕ) (x : Option Refusal) → NoneIn o Among low mid → FirstIn o Among mid high x → FirstIn o Among low high x
unfolding NoneIn
first_more o Among low mid high None none more = λ b s from below of_these refused.
    elim (cases_lt b mid) [ inl before ↦ none b s from before of_these refused | inr behind ↦ more b s behind below of_these refused ]
first_more o Among low mid high (Some r) none more = record {
  within = more.within;
  of_these = more.of_these;
  refuses = more.refuses;
  first = λ b s from below of_these refused.
      elim (cases_lt b mid) [ inl before ↦ absurd (none b s from before of_these refused) | inr behind ↦ more.first b s behind below of_these refused ];
}

-- what is first stays first, since all that comes is behind
pub first_keeps : (o : Object) (Among : Rule → Type 0) (low mid high : ℕ) (r : Refusal) → mid ≤ high → IsFirst o Among low mid r → IsFirst o Among low high r
first_keeps o Among low mid high r more is = record {
  within = omega (arith, is.within);
  of_these = is.of_these;
  refuses = is.refuses;
  first = λ b s from below of_these refused.
      elim (cases_lt b mid) [ inl before ↦ is.first b s from before of_these refused | inr behind ↦ inl (omega (arith, is.within)) ];
}

-- places where nothing is refused add nothing
pub first_over : (o : Object) (Among : Rule → Type 0) (low mid high : ℕ) (x : Option Refusal) → mid ≤ high
    → ((k : ℕ) (r : Rule) → mid ≤ k → k < high → Among r → Refuses r o k → ⊥) → FirstIn o Among low mid x → FirstIn o Among low high x
unfolding NoneIn
first_over o Among low mid high None more quiet none = λ b s from below of_these refused.
    elim (cases_lt b mid) [ inl before ↦ none b s from before of_these refused | inr behind ↦ quiet b s behind below of_these refused ]
first_over o Among low mid high (Some r) more quiet is = first_keeps o Among low mid high r more is

-- ---- rules at a place

pub none_below : (o : Object) (Among : Rule → Type 0) (at n : ℕ) (s : Rule) → NoneBelow o Among at n → number s < n → Among s → Refuses s o at → ⊥
unfolding NoneBelow
none_below o Among at n s none = none s

-- no rule below a number refuses, and not this one, so none up to it does
pub one_more : (o : Object) (Among : Rule → Type 0) (at n : ℕ) (r : Rule) → number r ≡ n → NoneBelow o Among at n → (Among r × Refuses r o at → ⊥) → NoneBelow o Among at (n + 1)
unfolding NoneBelow
one_more o Among at n r is below here s less of_these refused =
    let most : number s ≤ n = omega arith in
    elim (eq-or-lt_of_le most) [
      | inl same ↦ let e : s ≡ r = same_rule s r (omega arith) in
          here (subst (λ (q : Rule). Among q) e of_these, subst (λ (q : Rule). Refuses q o at) e refused)
      | inr before ↦ below s before of_these refused
    ]

pub first_here : (o : Object) (Among : Rule → Type 0) (at n : ℕ) (r : Rule) → number r ≡ n → NoneBelow o Among at n → Among r × Refuses r o at → IsFirstRule o Among at r
unfolding NoneBelow
first_here o Among at n r is below here = record {
  of_these = here.0;
  refuses = here.1;
  first = λ s of_these refused. elim (cases_lt (number s) n) [ inl less ↦ absurd (below s less of_these refused) | inr more ↦ omega arith ];
}

number_least : (s : Rule) → 1 ≤ number s
number_least rule.Spelled = omega arith
number_least rule.Reti = omega arith
number_least rule.Pc = omega arith
number_least rule.Sp = omega arith
number_least rule.Sr = omega arith
number_least rule.Store = omega arith
number_least rule.Static = omega arith
number_least rule.Pop = omega arith
number_least rule.Push = omega arith
number_least rule.Target = omega arith
number_least rule.Jump = omega arith
number_least rule.End = omega arith
number_least rule.Reloc = omega arith
number_least rule.Entry = omega arith

pub number_most : (s : Rule) → number s ≤ 14
number_most rule.Spelled = omega arith
number_most rule.Reti = omega arith
number_most rule.Pc = omega arith
number_most rule.Sp = omega arith
number_most rule.Sr = omega arith
number_most rule.Store = omega arith
number_most rule.Static = omega arith
number_most rule.Pop = omega arith
number_most rule.Push = omega arith
number_most rule.Target = omega arith
number_most rule.Jump = omega arith
number_most rule.End = omega arith
number_most rule.Reloc = omega arith
number_most rule.Entry = omega arith

pub none_below_one : (o : Object) (Among : Rule → Type 0) (at : ℕ) → NoneBelow o Among at 1
unfolding NoneBelow
none_below_one o Among at s less = absurd (omega (arith, number_least s))

-- ---- two sets of rules

before_both : (a b c : ℕ) (q r s : Rule) → Precedes a q b r → Precedes b r c s → Precedes a q c s
before_both a b c q r s (inl x) (inl y) = inl (omega arith)
before_both a b c q r s (inl x) (inr y) = inl (omega (arith, y.0))
before_both a b c q r s (inr x) (inl y) = inl (omega (arith, x.0))
before_both a b c q r s (inr x) (inr y) = inr (omega (arith, x.0, y.0), omega (arith, x.1, y.1))

other_way : (a b : ℕ) (q r : Rule) → (Precedes a q b r → ⊥) → Precedes b r a q
other_way a b q r never =
    elim (cases_order a b) [
      | inl same ↦ elim (cases_lt (number q) (number r)) [
        | inl less ↦ absurd (never (inr (same, omega arith)))
        | inr more ↦ inr (sym same, more)
      ]
      | inr other ↦ elim other [ inl less ↦ absurd (never (inl less)) | inr more ↦ inl more ]
    ]

module _ (o : Object) (low high : ℕ) where
  pub none_of_both : NoneIn o IsLocal low high → NoneIn o IsLanding low high → NoneIn o IsChecked low high
  unfolding NoneIn
  none_of_both x y b s from below checked refused =
      elim checked [ inl local ↦ x b s from below local refused | inr landing ↦ y b s from below landing refused ]

  pub local_alone : (r : Refusal) → IsFirst o IsLocal low high r → NoneIn o IsLanding low high → IsFirst o IsChecked low high r
  unfolding NoneIn
  local_alone r x y = record {
    within = x.within;
    of_these = inl x.of_these;
    refuses = x.refuses;
    first = λ b s from below checked refused.
        elim checked [ inl local ↦ x.first b s from below local refused | inr landing ↦ absurd (y b s from below landing refused) ];
  }

  pub landing_alone : (r : Refusal) → NoneIn o IsLocal low high → IsFirst o IsLanding low high r → IsFirst o IsChecked low high r
  unfolding NoneIn
  landing_alone r x y = record {
    within = y.within;
    of_these = inr y.of_these;
    refuses = y.refuses;
    first = λ b s from below checked refused.
        elim checked [ inl local ↦ absurd (x b s from below local refused) | inr landing ↦ y.first b s from below landing refused ];
  }

  pub local_first : (q r : Refusal) → IsFirst o IsLocal low high q → IsFirst o IsLanding low high r → Precedes q.at q.rule r.at r.rule → IsFirst o IsChecked low high q
  local_first q r x y before = record {
    within = x.within;
    of_these = inl x.of_these;
    refuses = x.refuses;
    first = λ b s from below checked refused.
        elim checked [
          | inl local ↦ x.first b s from below local refused
          | inr landing ↦ before_both q.at r.at b q.rule r.rule s before (y.first b s from below landing refused)
        ];
  }

  pub landing_first : (q r : Refusal) → IsFirst o IsLocal low high q → IsFirst o IsLanding low high r → (Precedes q.at q.rule r.at r.rule → ⊥) → IsFirst o IsChecked low high r
  landing_first q r x y never = record {
    within = y.within;
    of_these = inr y.of_these;
    refuses = y.refuses;
    first = λ b s from below checked refused.
        elim checked [
          | inl local ↦ before_both r.at q.at b r.rule q.rule s (other_way q.at r.at q.rule r.rule never) (x.first b s from below local refused)
          | inr landing ↦ y.first b s from below landing refused
        ];
  }

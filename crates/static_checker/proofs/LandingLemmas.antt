-- The rules on places that are gone to.
use Rattle.std.proofs.Common.{◌≡◌, ◌↔◌, ℕ, ◌+◌, ◌≤◌, ◌<◌, inl, inr, length, drop, Bool, IsTrue, refl, sym, ap, subst, arith}
use Rattle.std.proofs.Math.Nat.{eq-or-lt_of_le}
use Rattle.std.proofs.lemmas.Bool.{cases_lt}
use Rattle.msp_encode.specs.declared.instr.Instr.{Instr}
use Rattle.msp_encode.specs.declared.instr.Instr.TheVariants as instr
use Rattle.code_model.specs.declared.object.Object.{Object}
use Rattle.code_model.specs.declared.rules.Rule.{Rule}
use Rattle.code_model.specs.declared.rules.Rule.TheVariants as rule
use Rattle.code_model.specs.Starts.{Stands}
use Rattle.code_model.specs.Rules.{number, TransferMissesTarget, JumpMissesUnit, Refuses}
use Rattle.static_checker.specs.declared.spot.Spot.{Spot}
use Rattle.static_checker.specs.Spots.{IsSpot}
use Rattle.static_checker.specs.Firsts.{IsLanding, IsFirst, NoneIn, IsFirstRule, NoneBelow}
use Rattle.static_checker.specs.CodeUnits.{IsTransfer, TransferAt}
use Rattle.code_laws.proofs.Standing.{same_instr}
use Rattle.static_checker.proofs.FirstLemmas.{none_below, number_most, one_more, none_at_first}

transfer_misses_target : (o : Object) (at : ℕ) (i : Instr) → TransferMissesTarget o at i → IsTransfer i
transfer_misses_target o at (instr.Two op w s d) h = h.0
transfer_misses_target o at (instr.One op w s) h = h.0
transfer_misses_target o at (instr.Jump c k) h = tt
transfer_misses_target o at instr.Reti h = h

jumps_goes : (o : Object) (at : ℕ) (i : Instr) → JumpMissesUnit o at i → IsTransfer i
jumps_goes o at (instr.Two op w s d) h = absurd h
jumps_goes o at (instr.One op w s) h = absurd h
jumps_goes o at (instr.Jump c k) h = tt
jumps_goes o at instr.Reti h = h

-- what a target's rule refuses is a place that goes
pub target_goes : (o : Object) (at : ℕ) → Refuses rule.Target o at → TransferAt o at
target_goes o at x = record { start = x.1.start; instr = x.1.instr; words = x.1.words; stands = x.1.stands; is_transfer = transfer_misses_target o at x.1.instr x.1.breaks; free = x.0 }

pub jump_goes : (o : Object) (at : ℕ) → Refuses rule.Jump o at → TransferAt o at
jump_goes o at x = record { start = x.1.start; instr = x.1.instr; words = x.1.words; stands = x.1.stands; is_transfer = jumps_goes o at x.1.instr x.1.breaks; free = x.0 }

module _ (o : Object) (at : ℕ) (s : Spot) (transfer : TransferAt o at) (is : IsSpot o.code at s) where
  one : (i : Instr) (n : ℕ) → Stands o.code at i n → i ≡ s.instr
  one i n st = same_instr i s.instr (drop at o.code) n s.words st is.stands

  pub target_refuses : (b : Bool) → IsTrue b ↔ TransferMissesTarget o at s.instr → IsTrue b ↔ Refuses rule.Target o at
  target_refuses b iff = (
    (λ h. (transfer.free, record { start = transfer.start; instr = s.instr; words = s.words; stands = is.stands; breaks = iff.0 h })),
    (λ x. iff.1 (subst (λ (i : Instr). TransferMissesTarget o at i) (one x.1.instr x.1.words x.1.stands) x.1.breaks)),
  )

  pub jump_refuses : (b : Bool) → IsTrue b ↔ JumpMissesUnit o at s.instr → IsTrue b ↔ Refuses rule.Jump o at
  jump_refuses b iff = (
    (λ h. (transfer.free, record { start = transfer.start; instr = s.instr; words = s.words; stands = is.stands; breaks = iff.0 h })),
    (λ x. iff.1 (subst (λ (i : Instr). JumpMissesUnit o at i) (one x.1.instr x.1.words x.1.stands) x.1.breaks)),
  )

-- ---- rules at a place

pub jump_first : (o : Object) (at : ℕ) → (Refuses rule.Target o at → ⊥) → Refuses rule.Jump o at → IsFirstRule o IsLanding at rule.Jump
jump_first o at no_target x = record { of_these = inr (inl refl); refuses = x; first = least }
  where
    least : (s : Rule) → IsLanding s → Refuses s o at → 11 ≤ number s
    least s (inl e) y = absurd (no_target (subst (λ (q : Rule). Refuses q o at) e y))
    least s (inr (inl e)) y = omega (arith, ap number e)
    least s (inr (inr e)) y = omega (arith, ap number e)

pub entry_first : (o : Object) (at : ℕ) → NoneBelow o IsLanding at 14 → Refuses rule.Entry o at → IsFirstRule o IsLanding at rule.Entry
entry_first o at none x = record {
  of_these = inr (inr refl);
  refuses = x;
  first = λ s h y. elim (cases_lt (number s) 14) [ inl less ↦ absurd (none_below o IsLanding at 14 s none less h y) | inr more ↦ more ];
}

pub none_here : (o : Object) (at : ℕ) → (Refuses rule.Target o at → ⊥) → (Refuses rule.Jump o at → ⊥) → NoneBelow o IsLanding at 14
unfolding NoneBelow
none_here o at no_target no_jump s less h y = go h
  where
    go : IsLanding s → ⊥
    go (inl e) = no_target (subst (λ (q : Rule). Refuses q o at) e y)
    go (inr (inl e)) = no_jump (subst (λ (q : Rule). Refuses q o at) e y)
    go (inr (inr e)) = omega (arith, ap number e)

-- ---- the loop over the places

pub landing_at : (o : Object) (at : ℕ) (r : Rule) → at < length o.code → NoneIn o IsLanding 0 at → IsFirstRule o IsLanding at r → IsFirst o IsLanding 0 (length o.code) (record { at = at; rule = r })
unfolding NoneIn
landing_at o at r inside none is = record {
  within = inside;
  of_these = is.of_these;
  refuses = is.refuses;
  first = λ b s low high h refused.
      elim (cases_lt b at) [
        | inl before ↦ absurd (none b s low before h refused)
        | inr from ↦ elim (eq-or-lt_of_le from) [
          | inl same ↦ inr (same, is.first s h (subst (λ (n : ℕ). Refuses s o n) (sym same) refused))
          | inr less ↦ inl less
        ]
      ];
}

-- no rule on targets, and not the one on names
pub none_named : (o : Object) (at : ℕ) → NoneBelow o IsLanding at 14 → (Refuses rule.Entry o at → ⊥) → NoneBelow o IsLanding at 15
none_named o at none no_entry = one_more o IsLanding at 14 rule.Entry refl none (λ x. no_entry x.1)

-- where no jump, branch or call stands, no target is refused
pub no_transfer : (o : Object) (at : ℕ) → (TransferAt o at → ⊥) → NoneBelow o IsLanding at 14
no_transfer o at none = none_here o at (λ x. none (target_goes o at x)) (λ x. none (jump_goes o at x))

pub landing_on : (o : Object) (at : ℕ) → NoneIn o IsLanding 0 at → NoneBelow o IsLanding at 15 → NoneIn o IsLanding 0 (at + 1)
unfolding NoneIn
landing_on o at none here b s low high h refused =
    elim (cases_lt b at) [
      | inl before ↦ none b s low before h refused
      | inr from ↦ let same : b ≡ at = omega arith in none_below o IsLanding at 15 s here (omega (arith, number_most s)) h (subst (λ (n : ℕ). Refuses s o n) same refused)
    ]

pub nothing_first : (o : Object) → NoneIn o IsLanding 0 0
nothing_first o = none_at_first o IsLanding 0

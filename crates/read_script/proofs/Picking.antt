-- The step of the last pick, where steps never fall.
use Rattle.std.proofs.Common.{◌≡◌, ℕ, ◌≤◌, ◌<◌, ◌&&◌, ◌||◌, eqb, leb, Bool, true, false, List, [], ◌∷◌, ◌++◌, Option, Some, None, refl, sym, ◌∙◌, arith}
use Rattle.std.specs.Option.{ForSome}
use Rattle.std.proofs.lemmas.Bool.Decides.{nat_tests}
use Rattle.std.proofs.lemmas.List.Folds.{list_any-append}
use Rattle.std.proofs.lemmas.List.Sums.{fold-append}
use Rattle.trace_model.specs.declared.scripts.At.{At}
use Rattle.trace_model.specs.Grammar.{last_step, is_pick, is_pick_at, has_pick_at, may_follow}
use Rattle.read_script.specs.Picked.{is_step}

pub last_step-append : (ats : List At) (a : At) → last_step (ats ++ a ∷ []) ≡ a.step
last_step-append ats a = rw (fold-append (λ step (x : At). x.step) 0 ats (a ∷ [])) refl

has_pick_at-append : (step : ℕ) (ats : List At) (a : At) → has_pick_at step (ats ++ a ∷ []) ≡ (has_pick_at step ats || (is_pick_at step a || false))
has_pick_at-append step ats a = list_any-append (is_pick_at step) ats (a ∷ [])

or_false : (a b c : Bool) → b ≡ false → (a || ((c && b) || false)) ≡ a
or_false true b c e = refl
or_false false false true e = refl
or_false false false false e = refl
or_false false true c e = cc

-- a line that is no pick
pub picked_as_before : (picked : Option ℕ) (step : ℕ) (ats : List At) (a : At) → is_pick a.what ≡ false → has_pick_at step ats ≡ is_step picked step → has_pick_at step (ats ++ a ∷ []) ≡ is_step picked step
picked_as_before picked step ats a e h = has_pick_at-append step ats a ∙ (or_false _ _ _ e ∙ h)

or_pick : (a b c : Bool) → b ≡ true → a ≡ false → (a || ((c && b) || false)) ≡ c
or_pick true b c e h = cc
or_pick false true true e h = refl
or_pick false true false e h = refl
or_pick false false c e h = cc

or_same : (a b c : Bool) → b ≡ true → c ≡ true → (a || ((c && b) || false)) ≡ c
or_same true true true e h = refl
or_same false true true e h = refl
or_same a false c e h = cc
or_same a b false e h = cc

above_picked : (picked : Option ℕ) (last step : ℕ) → ForSome picked (λ p. p ≤ last) → last < step → is_step picked step ≡ false
above_picked None last step low h = refl
above_picked (Some p) last step low h = let most : p ≤ last = low p refl in grind (arith, nat_tests)

picked_by : (picked : Option ℕ) (last step : ℕ) (ats : List At) (a : At) (same : Bool) → eqb a.step step ≡ same → ForSome picked (λ p. p ≤ last) → last ≤ a.step → a.step ≤ step → is_pick a.what ≡ true →
    has_pick_at step ats ≡ is_step picked step → has_pick_at step (ats ++ a ∷ []) ≡ eqb a.step step
picked_by picked last step ats a true same low falls here e h = has_pick_at-append step ats a ∙ or_same _ _ _ e same
picked_by picked last step ats a false same low falls here e h =
    let over : last < step = grind (arith, nat_tests) in
    has_pick_at-append step ats a ∙ or_pick _ _ _ e (h ∙ above_picked picked last step low over)

-- a pick
pub picked_here : (picked : Option ℕ) (last step : ℕ) (ats : List At) (a : At) → ForSome picked (λ p. p ≤ last) → last ≤ a.step → a.step ≤ step → is_pick a.what ≡ true →
    has_pick_at step ats ≡ is_step picked step → has_pick_at step (ats ++ a ∷ []) ≡ is_step (Some a.step) step
picked_here picked last step ats a low falls here e h = picked_by picked last step ats a (eqb a.step step) refl low falls here e h

-- ---- a line more

pub last_is_pushed : (ats after : List At) (a : At) → after ≡ ats ++ a ∷ [] → a.step ≡ last_step after
last_is_pushed ats after a e = sym (rw e (last_step-append ats a))

front_true : (b c : Bool) → (b && c) ≡ true → b ≡ true
front_true true c e = refl
front_true false c e = cc

pub never_falls : (last : ℕ) (ats : List At) (a : At) → last ≡ last_step ats → may_follow ats a ≡ true → last ≤ a.step
unfolding may_follow
never_falls last ats a e follows =
    let low : leb (last_step ats) a.step ≡ true = front_true _ _ follows in
    grind (arith, nat_tests)

-- what is known of the last pick of some lines
abbrev pub IsLastPick : Option ℕ → ℕ → List At → Type 0
IsLastPick picked last ats = (step : ℕ) → last ≤ step → has_pick_at step ats ≡ is_step picked step

pub pick_pushed : (picked : Option ℕ) (last : ℕ) (ats after : List At) (a : At) → after ≡ ats ++ a ∷ [] → ForSome picked (λ p. p ≤ last) → last ≤ a.step → is_pick a.what ≡ true → IsLastPick picked last ats → IsLastPick (Some a.step) a.step after
pick_pushed picked last ats after a e low falls pick known step here = rw e (picked_here picked last step ats a low falls here pick (known step (omega arith)))

pub raise_pushed : (picked : Option ℕ) (last : ℕ) (ats after : List At) (a : At) → after ≡ ats ++ a ∷ [] → last ≤ a.step → is_pick a.what ≡ false → IsLastPick picked last ats → IsLastPick picked a.step after
raise_pushed picked last ats after a e falls raise known step here = rw e (picked_as_before picked step ats a raise (known step (omega arith)))

pub still_low : (picked : Option ℕ) (last next : ℕ) → ForSome picked (λ p. p ≤ last) → last ≤ next → ForSome picked (λ p. p ≤ next)
still_low picked last next low falls p e = let most : p ≤ last = low p e in omega arith

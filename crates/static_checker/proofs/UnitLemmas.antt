-- A guard that is begun at a place, and an instruction where none begins.
use Rattle.std.proofs.Common.{zero, suc, [], ◌∷◌, take, slice_get, add-one, ◌≡◌, ◌≢◌, ℕ, ◌+◌, ◌≤◌, ◌<◌, List, ◌⊎◌, inl, inr, slice_index, length, drop, None, Some, refl, sym, subst, ap, ◌∙◌, arith}
use Rattle.std.proofs.lemmas.Bool.{cases_order, cases_lt}
use Rattle.msp_encode.specs.declared.instr.Instr.{Instr}
use Rattle.code_model.specs.declared.object.Object.{Object}
use Rattle.code_model.specs.declared.guards.GuardKind.{GuardKind}
use Rattle.code_model.specs.declared.guards.GuardKind.TheVariants as guard
use Rattle.code_model.specs.declared.guards.Slot.{Slot}
use Rattle.code_model.specs.Starts.{Stands, NoneStands, Start}
use Rattle.code_model.specs.Guards.{Guarded, guard_words, Fits, FitAll, Serves, Own, OwnBy, Interior, UnitStart}
use Rattle.code_laws.proofs.Standing.{same_instr}
use Rattle.code_laws.proofs.Starting.{starts_apart}
use Rattle.code_laws.proofs.Begins.{guard_begins}
use Rattle.code_laws.specs.SecondWords.{SecondIs, HighIs}
use Rattle.code_laws.proofs.Inside.{second_is, high_is}
use Rattle.code_laws.proofs.Lines.{guard_reaches}
use Rattle.code_laws.proofs.Runs.{base_before, first_before, also_guarded}
use Rattle.static_checker.specs.declared.spot.Spot.{Spot}
use Rattle.static_checker.specs.Spots.{IsSpot, IsStartSpot}
use Rattle.static_checker.specs.declared.code_units.BegunGuard.{BegunGuard}
use Rattle.static_checker.specs.Advances.{IsBegun}
use Rattle.static_checker.specs.CodeUnits.{wording, IsServing, NoGuardFrom, OnlyKind, IsGuardOf, NoGuardAcross, IsCodeUnit}
use Rattle.static_checker.proofs.RunLemmas.{clear_of, unit_here, guard_unit}

pub start_spot : (o : Object) (at : ℕ) (s : Spot) → Start o.code at → IsSpot o.code at s → IsStartSpot o.code s
start_spot o at s start is = record {
  start = subst (λ (n : ℕ). Start o.code n) (sym is.place) start;
  is = subst (λ (n : ℕ). IsSpot o.code n s) (sym is.place) is;
}

-- ---- no guard with the words of a kind begins at a place

-- a guard has the words of its wording
same_words : (g : GuardKind) → guard_words g ≡ guard_words (wording g)
same_words guard.Store = refl
same_words (guard.Wide r) = refl
same_words guard.Load = refl
same_words guard.Growth = refl
same_words guard.Pop = refl
same_words guard.Sp = refl

pub words_are : (g k : GuardKind) → wording g ≡ k → guard_words g ≡ guard_words k
words_are g k e = same_words g ∙ ap guard_words e

words_by : (o : Object) (at : ℕ) (k : GuardKind) → OnlyKind o at k → (guarded : ℕ) (g : GuardKind) (h : Guarded o guarded g) → h.first ≡ at → wording g ≡ k
unfolding OnlyKind
words_by o at k only = only

pub not_fit : (o : Object) (at : ℕ) (k : GuardKind) → OnlyKind o at k → (FitAll o at (guard_words k) → ⊥) → (g : GuardKind) → NoGuardFrom o at g
unfolding NoGuardFrom
not_fit o at k only never g guarded h e =
    let same : guard_words g ≡ guard_words k = words_are g k (words_by o at k only guarded g h e) in
    never (subst (λ (ss : List Slot). FitAll o at ss) same (subst (λ (n : ℕ). FitAll o n (guard_words g)) e h.fit))

-- what a guard that begins at a place serves directly behind its words
record ServesFirst (o : Object) (at end : ℕ) (k g : GuardKind) : Type 0 where
  instr : Instr
  words : ℕ
  stands : Stands o.code end instr words
  is : IsServing k o at end instr g
  inside : end < length o.code

first_of : (o : Object) (at len guarded : ℕ) (k g : GuardKind) → OnlyKind o at k → len ≡ length (guard_words k) → (h : Guarded o guarded g) → h.first ≡ at → ServesFirst o at (at + len) k g
first_of o at len guarded k g only same h e =
    let worded : wording g ≡ k = words_by o at k only guarded g h e in
    let size : length (guard_words g) ≡ length (guard_words k) = ap (λ (ss : List Slot). length ss) (words_are g k worded) in
    let base : h.base ≡ at + len = omega (arith, h.ends) in
    let inside : h.first + length (guard_words g) < length o.code = omega (arith, h.ends, base_before o guarded g h, h.start.below) in
    let starts : Start o.code h.base = subst (λ (n : ℕ). Start o.code n) h.ends (guard_reaches o h.first g h.fit h.begins inside) in
    let also = also_guarded o guarded h.base g h starts (omega arith) (base_before o guarded g h) in
    let from : also.guarded.first ≡ at = also.first ∙ e in
    record {
      instr = also.guarded.instr;
      words = also.guarded.words;
      stands = subst (λ (n : ℕ). Stands o.code n also.guarded.instr also.guarded.words) base also.guarded.stands;
      is = record {
        words = worded;
        known = h.known;
        serves = subst (λ (n : ℕ). Serves g o at n also.guarded.instr) base (subst (λ (n : ℕ). Serves g o n h.base also.guarded.instr) from also.guarded.serves);
      };
      inside = omega (arith, h.ends);
    }

pub past_code : (o : Object) (at len : ℕ) (k : GuardKind) → OnlyKind o at k → len ≡ length (guard_words k) → length o.code ≤ at + len → (g : GuardKind) → NoGuardFrom o at g
unfolding NoGuardFrom
past_code o at len k only same past g guarded h e = omega (arith, (first_of o at len guarded k g only same h e).inside)

pub none_there : (o : Object) (at len : ℕ) (k : GuardKind) → OnlyKind o at k → len ≡ length (guard_words k) → NoneStands o.code (at + len) → (g : GuardKind) → NoGuardFrom o at g
unfolding NoGuardFrom
none_there o at len k only same none g guarded h e = let x = first_of o at len guarded k g only same h e in none x.instr x.words x.stands

pub not_served : (o : Object) (at len : ℕ) (k : GuardKind) (s : Spot) → OnlyKind o at k → len ≡ length (guard_words k) → IsSpot o.code (at + len) s
    → ((g : GuardKind) → IsServing k o at (at + len) s.instr g → ⊥) → (g : GuardKind) → NoGuardFrom o at g
unfolding NoGuardFrom
not_served o at len k s only same is never g guarded h e =
    let x = first_of o at len guarded k g only same h e in
    let one : x.instr ≡ s.instr = same_instr x.instr s.instr (drop (at + len) o.code) x.words s.words x.stands is.stands in
    never g (subst (λ (i : Instr). IsServing k o at (at + len) i g) one x.is)

-- ---- an instruction where no guard begins

module _ (o : Object) (at : ℕ) (s : Spot) (start : Start o.code at) (clear : NoGuardAcross o at) (none : (g : GuardKind) → NoGuardFrom o at g) (is : IsSpot o.code at s) where
  none_begins : (guarded : ℕ) (g : GuardKind) (h : Guarded o guarded g) → h.first ≡ at → ⊥
  unfolding NoGuardFrom
  none_begins guarded g h e = none g guarded h e

  before_here : (guarded : ℕ) (g : GuardKind) (h : Guarded o guarded g) → h.first < at + s.words → guarded < at
  before_here guarded g h less =
      elim (cases_order h.first at) [
        | inl same ↦ absurd (none_begins guarded g h same)
        | inr other ↦ elim other [
          | inl before ↦ clear_of o at clear guarded g h before
          | inr after ↦ absurd (omega (arith, starts_apart o.code at h.first s.instr s.words start is.stands h.begins after))
        ]
      ]

  not_own : Own o at → ⊥
  unfolding Own OwnBy
  not_own (guarded, (g, (h, (low, high)))) = omega (arith, before_here guarded g h (omega (arith, low, is.least)), high, base_before o guarded g h)

  clear_behind : NoGuardAcross o (at + s.words)
  unfolding NoGuardAcross
  clear_behind guarded g h less = omega (arith, before_here guarded g h less)

  unguarded : IsGuardOf o at None
  unfolding IsGuardOf
  unguarded g = ((λ h. absurd (omega (arith, before_here at g h (omega (arith, first_before o at g h, is.least))))), (λ e. cc))

  each_here : (k : ℕ) → Start o.code k → at ≤ k → k < at + s.words → Interior o k ⊎ UnitStart o k
  each_here k t low high =
      elim (cases_lt at k) [
        | inl after ↦ absurd (omega (arith, starts_apart o.code at k s.instr s.words start is.stands t after))
        | inr same ↦ let e : at ≡ k = omega arith in inr (subst (λ (n : ℕ). UnitStart o n) e (unit_here o at start clear))
      ]

  pub free_unit : IsCodeUnit o at (record { spot = s; guard = None })
  free_unit = record {
    next = record {
      here = record {
        is = start_spot o at s start is;
        guard = subst (λ (n : ℕ). IsGuardOf o n None) (sym is.place) unguarded;
        free = subst (λ (n : ℕ). Own o n → ⊥) (sym is.place) not_own;
      };
      order = omega (arith, is.place);
      each = λ k t low high. each_here k t low (omega (arith, is.place));
      quiet = λ k r low high. absurd (omega (arith, is.place));
      own = λ k t low high. absurd (omega (arith, is.place));
    };
    starts = unit_here o at start clear;
    inner = λ k t low high. absurd (omega (arith, is.place, starts_apart o.code at k s.instr s.words start is.stands t low));
    behind = subst (λ (n : ℕ). NoGuardAcross o (n + s.words)) (sym is.place) clear_behind;
  }

-- ---- a guard that is begun

-- its words so far, and one more
pub fit_more : (o : Object) (at : ℕ) (ss : List Slot) (n : ℕ) (s : Slot) → FitAll o at (take n ss) → slice_get ss n ≡ Some s → Fits o (at + n) s → FitAll o at (take (suc n) ss)
fit_more o at [] n s fit is here = tt
fit_more o at (x ∷ ss) zero s fit is here =
    let e : s ≡ x = cc in
    let f : at + 0 ≡ at = omega arith in
    (subst (λ (y : Slot). Fits o at y) e (subst (λ (k : ℕ). Fits o k s) f here), tt)
fit_more o at (x ∷ ss) (suc n) s fit is here =
    let f : at + suc n ≡ at + 1 + n = omega arith in
    (fit.0, fit_more o (at + 1) ss n s fit.1 is (subst (λ (k : ℕ). Fits o k s) f here))

fit_slot : (o : Object) (at : ℕ) (ss : List Slot) (n : ℕ) (s : Slot) → FitAll o at ss → slice_get ss n ≡ Some s → Fits o (at + n) s
fit_slot o at [] n s fit is = cc
fit_slot o at (x ∷ ss) zero s fit is =
    let e : x ≡ s = cc in
    let f : at ≡ at + 0 = omega arith in
    subst (λ (k : ℕ). Fits o k s) f (subst (λ (y : Slot). Fits o at y) e fit.0)
fit_slot o at (x ∷ ss) (suc n) s fit is =
    let f : at + 1 + n ≡ at + suc n = omega arith in
    subst (λ (k : ℕ). Fits o k s) f (fit_slot o (at + 1) ss n s fit.1 is)

fit_whole : (o : Object) (at : ℕ) (ss : List Slot) (n : ℕ) → length ss ≤ n → FitAll o at (take n ss) → FitAll o at ss
fit_whole o at [] n past fit = tt
fit_whole o at (x ∷ ss) zero past fit = absurd (omega arith)
fit_whole o at (x ∷ ss) (suc n) past fit = (fit.0, fit_whole o (at + 1) ss n (omega arith) fit.1)

pub before_slots : (ss : List Slot) (n : ℕ) (s : Slot) → slice_get ss n ≡ Some s → n < length ss
before_slots [] n s is = cc
before_slots (x ∷ ss) zero s is = omega arith
before_slots (x ∷ ss) (suc n) s is = omega (arith, before_slots ss n s is)

pub no_save : (o : Object) (at w : ℕ) → w ≡ slice_index o.code at → w ≢ 0x4205 → (g : GuardKind) → NoGuardFrom o at g
unfolding NoGuardFrom
no_save o at w is other g guarded h e = other (is ∙ (ap (slice_index o.code) (sym e) ∙ guard_begins o h.first g h.fit))

pub only_kind : (o : Object) (at w v : ℕ) (k : GuardKind) → w ≡ slice_index o.code (at + 1) → v ≡ slice_index o.code (at + 8)
    → ((g : GuardKind) → SecondIs g w → HighIs g v → wording g ≡ k) → OnlyKind o at k
unfolding OnlyKind
only_kind o at w v k is high by guarded g h e =
    let f : SecondIs g (slice_index o.code (at + 1)) = subst (λ (n : ℕ). SecondIs g (slice_index o.code (n + 1))) e (second_is o h.first g h.fit) in
    let j : HighIs g (slice_index o.code (at + 8)) = subst (λ (n : ℕ). HighIs g (slice_index o.code (n + 8))) e (high_is o h.first g h.fit) in
    by g (subst (λ (x : ℕ). SecondIs g x) (sym is) f) (subst (λ (x : ℕ). HighIs g x) (sym high) j)

-- how a begun guard goes on, or breaks off

pub one_more_word : (o : Object) (at : ℕ) (b : BegunGuard) (s : Slot) → IsBegun o at b → slice_get (guard_words b.kind) b.words ≡ Some s → Fits o (at + b.words) s
    → IsBegun o at (record { kind = b.kind; words = b.words + 1 })
one_more_word o at b s is slot fits = record {
  most = omega (arith, before_slots (guard_words b.kind) b.words s slot);
  fit = subst (λ (n : ℕ). FitAll o at (take n (guard_words b.kind))) (sym (add-one b.words)) (fit_more o at (guard_words b.kind) b.words s is.fit slot fits);
  only = is.only;
  wording = is.wording;
}

pub breaks_off : (o : Object) (at : ℕ) (b : BegunGuard) (s : Slot) → IsBegun o at b → slice_get (guard_words b.kind) b.words ≡ Some s → (Fits o (at + b.words) s → ⊥) → (g : GuardKind) → NoGuardFrom o at g
breaks_off o at b s is slot never = not_fit o at b.kind is.only (λ fit. never (fit_slot o at (guard_words b.kind) b.words s fit slot))

pub whole_fit : (o : Object) (at : ℕ) (b : BegunGuard) → IsBegun o at b → b.words ≡ length (guard_words b.kind) → FitAll o at (guard_words b.kind)
whole_fit o at b is e = fit_whole o at (guard_words b.kind) b.words (omega arith) is.fit

pub guard_taken : (o : Object) (at : ℕ) (b : BegunGuard) (g : GuardKind) (s : Spot) → Start o.code at → NoGuardAcross o at → IsBegun o at b → b.words ≡ length (guard_words b.kind)
    → at + b.words < length o.code → IsSpot o.code (at + b.words) s → IsServing b.kind o at (at + b.words) s.instr g → IsCodeUnit o at (record { spot = s; guard = Some g })
guard_taken o at b g s start clear is whole inside spot serving =
    let same : guard_words g ≡ guard_words b.kind = words_are g b.kind serving.words in
    let size : length (guard_words g) ≡ length (guard_words b.kind) = ap (λ (ss : List Slot). length ss) same in
    let fit : FitAll o at (guard_words g) = subst (λ (ss : List Slot). FitAll o at ss) (sym same) (whole_fit o at b is whole) in
    let begins : Start o.code (at + length (guard_words g)) = guard_reaches o at g fit start (omega arith) in
    let there : at + length (guard_words g) ≡ at + b.words = omega arith in
    let here : IsStartSpot o.code s = start_spot o (at + b.words) s (subst (λ (n : ℕ). Start o.code n) there begins) spot in
    guard_unit o at g s start clear fit serving.known (spot.place ∙ sym there) here (subst (λ (n : ℕ). Serves g o at n s.instr) (sym spot.place) serving.serves)

pub first_word : (o : Object) (at : ℕ) (k : GuardKind) → OnlyKind o at k → wording k ≡ k → IsBegun o at (record { kind = k; words = 0 })
first_word o at k only worded = record { most = omega arith; fit = tt; only = only; wording = worded }

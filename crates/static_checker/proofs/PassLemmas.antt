-- The pass over the code: from unit to unit.
use Rattle.std.proofs.Common.{◌≡◌, ◌≢◌, ◌↔◌, ℕ, zero, suc, ◌+◌, ◌≤◌, ◌<◌, List, ◌⊎◌, inl, inr, length, Option, None, Some, MatchOption, refl, sym, ap, subst, arith}
use Rattle.std.proofs.Math.Nat.{eq-or-lt_of_le}
use Rattle.std.proofs.lemmas.Bool.{cases_lt, cases_order}
use Rattle.msp_encode.specs.declared.instr.Instr.{Instr}
use Rattle.code_model.specs.declared.object.Object.{Object}
use Rattle.kernel_model.specs.Bitmap.{Has}
use Rattle.code_model.specs.Starts.{Stands, NoneStands, Reached, Start, IsSpelled, Bad}
use Rattle.code_model.specs.Guards.{guard_words, most_served, Serves, Interior, UnitStart}
use Rattle.code_laws.proofs.Starting.{one_place, further, starts_apart}
use Rattle.static_checker.specs.declared.cursor.Cursor.{Cursor}
use Rattle.static_checker.specs.declared.refusal.Refusal.{Refusal}
use Rattle.static_checker.specs.declared.spot.Spot.{Spot}
use Rattle.static_checker.specs.declared.code_units.CodeUnit.{CodeUnit}
use Rattle.static_checker.specs.declared.pass.Pass.{Pass}
use Rattle.static_checker.specs.Cursors.{IsCursor}
use Rattle.static_checker.specs.Firsts.{IsLocal, FirstIn}
use Rattle.static_checker.specs.Marked.{Adds}
use Rattle.static_checker.specs.CodeUnits.{NoGuardAcross, HasServed, IsBehind, IsServedSpot, IsNextInstr, IsNextServed, IsCodeUnit, IsTransfer, TransferAt}
use Rattle.code_model.specs.declared.guards.GuardKind.{GuardKind}
use Rattle.code_model.specs.declared.guards.GuardKind.TheVariants as guard
use Rattle.static_checker.specs.declared.code_units.BegunGuard.{BegunGuard}
use Rattle.static_checker.specs.Advances.{IsBegun, BegunAt, seen}
use Rattle.static_checker.specs.Passed.{IsReached, IsGone, UnitsBelow, IsPassed, IsWhole, left}
use Rattle.static_checker.proofs.Guarding.{instr_of}
use Rattle.static_checker.proofs.FirstLemmas.{none_at_first, first_over}
use Rattle.static_checker.proofs.RunLemmas.{served_next}
use Rattle.static_checker.proofs.UnitLemmas.{start_spot}

-- ---- the first place

nothing_before : (o : Object) → NoGuardAcross o 0
unfolding NoGuardAcross
nothing_before o guarded g h less = absurd (omega arith)

pub passed_begins : (o : Object) (c : Cursor) (units transfers : List ℕ) → IsCursor o.relocs c → c.at ≡ 0 → ((k : ℕ) → Has units k → ⊥) → ((k : ℕ) → Has transfers k → ⊥)
    → IsPassed o (record { cursor = c; begun = None; units = units; transfers = transfers; first = None })
unfolding UnitsBelow
passed_begins o c units transfers is at no_unit no_transfer = record {
  gone = record {
    cursor = is;
    reached = record { count = 0; reached = at; within = omega (arith, at) };
    transfers = λ k. ((λ h. absurd (no_transfer k h)), (λ x. absurd (omega (arith, x.1, at))));
    each = λ k t less. absurd (omega (arith, at));
    first = subst (λ (n : ℕ). FirstIn o IsLocal 0 n None) (sym at) (none_at_first o IsLocal 0);
  };
  units = λ k. ((λ h. absurd (no_unit k h)), (λ x. absurd (omega (arith, x.1, at))));
  clear = subst (λ (n : ℕ). NoGuardAcross o n) (sym at) (nothing_before o);
  begun = tt;
}

pub start_here : (o : Object) (p : Pass) → IsGone o p → p.cursor.at < length o.code → Start o.code p.cursor.at
start_here o p is inside = record { count = is.reached.count; reached = is.reached.reached; below = inside }

-- ---- over an instruction

-- the first refusal before it
pub first_to : (o : Object) (at : ℕ) (p : CodeUnit) (x : Option Refusal) → IsNextInstr o at p → FirstIn o IsLocal 0 at x → FirstIn o IsLocal 0 p.spot.at x
first_to o at p x next = first_over o IsLocal 0 at p.spot.at x next.order (λ k r low high local refused. next.quiet k r low high local refused)

module _ (o : Object) (old : Pass) (p : CodeUnit) (c : Cursor) (transfers : List ℕ) (first : Option Refusal)
    (was : IsGone o old) (next : IsNextInstr o old.cursor.at p)
    (is : IsCursor o.relocs c) (c_at : c.at ≡ p.spot.at + p.spot.words)
    (adds : Adds old.transfers transfers (λ k. (k ≡ p.spot.at) × IsTransfer p.spot.instr))
    (found : FirstIn o IsLocal 0 (p.spot.at + p.spot.words) first) where
  spot_least : 1 ≤ p.spot.words
  spot_least = next.here.is.is.least

  to_transfer : (k : ℕ) → Has transfers k → TransferAt o k × (k < p.spot.at + p.spot.words)
  to_transfer k h =
      elim ((adds k).0 h) [
        | inl before ↦ let b : TransferAt o k × (k < old.cursor.at) = (was.transfers k).0 before in (b.0, omega (arith, b.1, next.order))
        | inr added ↦ (
          subst (λ (n : ℕ). TransferAt o n) (sym added.0)
              (record { start = next.here.is.start; instr = p.spot.instr; words = p.spot.words; stands = next.here.is.is.stands; is_transfer = added.1; free = next.here.free }),
          omega (arith, added.0, spot_least),
        )
      ]

  goes_there : TransferAt o p.spot.at → IsTransfer p.spot.instr
  goes_there x = subst (λ (i : Instr). IsTransfer i) (instr_of o.code p.spot x.instr x.words next.here.is x.stands) x.is_transfer

  from_transfer : (k : ℕ) → TransferAt o k × (k < p.spot.at + p.spot.words) → Has transfers k
  from_transfer k (x, below) =
      elim (cases_lt k old.cursor.at) [
        | inl before ↦ (adds k).1 (inl ((was.transfers k).1 (x, before)))
        | inr low ↦ elim (cases_order k p.spot.at) [
          | inl same ↦ (adds k).1 (inr (same, goes_there (subst (λ (n : ℕ). TransferAt o n) same x)))
          | inr other ↦ elim other [
            | inl less ↦ absurd (x.free (next.own k x.start low less))
            | inr more ↦ absurd (omega (arith, starts_apart o.code p.spot.at k p.spot.instr p.spot.words next.here.is.start next.here.is.is.stands x.start more))
          ]
        ]
      ]

  each_to : (k : ℕ) → Start o.code k → k < p.spot.at + p.spot.words → Interior o k ⊎ UnitStart o k
  each_to k t high = elim (cases_lt k old.cursor.at) [ inl before ↦ was.each k t before | inr low ↦ next.each k t low high ]

  reached_to : IsReached o.code (p.spot.at + p.spot.words)
  reached_to = record {
    count = suc next.here.is.start.count;
    reached = (p.spot.at, next.here.is.start.reached, record { instr = p.spot.instr; words = p.spot.words; stands = next.here.is.is.stands; ends = refl });
    within = next.here.is.is.within;
  }

  pub gone_on : IsGone o (record { cursor = c; begun = old.begun; units = old.units; transfers = transfers; first = first })
  gone_on = record {
    cursor = is;
    reached = subst (λ (n : ℕ). IsReached o.code n) (sym c_at) reached_to;
    transfers = subst (λ (n : ℕ). (k : ℕ) → Has transfers k ↔ (TransferAt o k × (k < n))) (sym c_at) (λ k. (to_transfer k, from_transfer k));
    each = subst (λ (n : ℕ). (k : ℕ) → Start o.code k → k < n → Interior o k ⊎ UnitStart o k) (sym c_at) each_to;
    first = subst (λ (n : ℕ). FirstIn o IsLocal 0 n first) (sym c_at) found;
  }

-- ---- the unit starts

pub units_first : (o : Object) (at : ℕ) (p : CodeUnit) (old units : List ℕ) → IsCodeUnit o at p → UnitsBelow o old at → Has units at → ((k : ℕ) → k ≢ at → Has units k ↔ Has old k)
    → UnitsBelow o units (p.spot.at + p.spot.words)
unfolding UnitsBelow
units_first o at p old units unit was marked others k = (go, back)
  where
    least : 1 ≤ p.spot.words
    least = unit.next.here.is.is.least

    go : Has units k → UnitStart o k × (k < p.spot.at + p.spot.words)
    go h =
        elim (cases_order k at) [
          | inl same ↦ (subst (λ (n : ℕ). UnitStart o n) (sym same) unit.starts, omega (arith, unit.next.order, least))
          | inr other ↦
              let differs : k ≢ at = elim other [ inl less ↦ omega arith | inr more ↦ omega arith ] in
              let b : UnitStart o k × (k < at) = (was k).0 ((others k differs).0 h) in
              (b.0, omega (arith, b.1, unit.next.order))
        ]

    back : UnitStart o k × (k < p.spot.at + p.spot.words) → Has units k
    back x =
        elim (cases_order k at) [
          | inl same ↦ subst (λ (n : ℕ). Has units n) (sym same) marked
          | inr other ↦ elim other [
            | inl less ↦ let differs : k ≢ at = omega arith in (others k differs).1 ((was k).1 (x.0, less))
            | inr more ↦ absurd (x.0.1 (unit.inner k x.0.0 more x.1))
          ]
        ]

-- none is an instruction that a guard serves
pub units_over : (o : Object) (at end : ℕ) (units : List ℕ) → at ≤ end → ((k : ℕ) → Start o.code k → at ≤ k → k < end → Interior o k) → UnitsBelow o units at → UnitsBelow o units end
unfolding UnitsBelow
units_over o at end units order inner was k = (go, back)
  where
    go : Has units k → UnitStart o k × (k < end)
    go h = let b : UnitStart o k × (k < at) = (was k).0 h in (b.0, omega (arith, b.1))

    back : UnitStart o k × (k < end) → Has units k
    back x = elim (cases_lt k at) [ inl less ↦ (was k).1 (x.0, less) | inr more ↦ absurd (x.0.1 (inner k x.0.0 more x.1)) ]

pub passed_of : (o : Object) (p : Pass) → IsGone o p → UnitsBelow o p.units p.cursor.at → NoGuardAcross o p.cursor.at → p.begun ≡ None → IsPassed o p
passed_of o p gone units clear free = record { gone = gone; units = units; clear = clear; begun = subst (λ (x : Option BegunGuard). BegunAt o p.cursor.at x) (sym free) tt }

-- ---- over what a guard serves

pub served_spot : (o : Object) (g : GuardKind) (first count at : ℕ) (s : Spot) → IsReached o.code at → HasServed o g first count at → count < most_served g → IsServedSpot g o first at s
    → IsNextServed o first count at (record { spot = s; guard = Some g })
served_spot o g first count at s reached was few served =
    let start : Start o.code at = record { count = reached.count; reached = reached.reached; below = omega (arith, served.is.within, served.is.least) } in
    let to : HasServed o g first count s.at = subst (λ (n : ℕ). HasServed o g first count n) (sym served.is.place) was in
    let serves : Serves g o first s.at s.instr = subst (λ (n : ℕ). Serves g o first n s.instr) (sym served.is.place) served.serves in
    subst (λ (n : ℕ). IsNextServed o first count n (record { spot = s; guard = Some g })) served.is.place (served_next o g first count s to few (start_spot o at s start served.is) serves)

-- what is left to go over in a unit: another instruction that its guard serves, or nothing
abbrev pub IsToServe : Object → (first served at : ℕ) → (units : List ℕ) → Option CodeUnit → Type 0
IsToServe o first served at units None = NoGuardAcross o at × UnitsBelow o units at
IsToServe o first served at units (Some p) = IsNextInstr o at p × IsBehind o first p.guard (served + 1) (p.spot.at + p.spot.words) × UnitsBelow o units (p.spot.at + p.spot.words)

pub to_serve : (o : Object) (first served at : ℕ) (units : List ℕ) (x : Option CodeUnit) (p : CodeUnit) → x ≡ Some p → IsToServe o first served at units x → IsToServe o first served at units (Some p)
to_serve o first served at units x p e = subst (λ (y : Option CodeUnit). IsToServe o first served at units y) e

pub units_at : (o : Object) (old units : List ℕ) (end at : ℕ) → units ≡ old → at ≡ end → UnitsBelow o old end → UnitsBelow o units at
units_at o old units end at same e below = subst (λ (n : ℕ). UnitsBelow o units n) (sym e) (subst (λ (m : List ℕ). UnitsBelow o m end) (sym same) below)

pub serves_on : (o : Object) (first served at : ℕ) (units : List ℕ) (x : Option CodeUnit) → UnitsBelow o units at → MatchOption x (NoGuardAcross o at) (λ u. IsNextServed o first served at u) → IsToServe o first served at units x
serves_on o first served at units None below found = (found, below)
serves_on o first served at units (Some p) below found =
    let order : at ≤ p.spot.at + p.spot.words = omega (arith, found.next.order) in
    (found.next, found.behind, units_over o at (p.spot.at + p.spot.words) units order found.inner below)

-- ---- the end

spelled_before : (code : List ℕ) (m n a b : ℕ) → Reached code m a → Reached code n b → m < n → IsSpelled code a
spelled_before code m zero a b r s h = absurd (omega arith)
spelled_before code m (suc n) a b r (q, s, y) h =
    let most : m ≤ n = omega arith in
    elim (eq-or-lt_of_le most) [
      | inl same ↦
          let e : q ≡ a = one_place code n q a s (subst (λ (k : ℕ). Reached code k a) same r) in
          record { instr = y.instr; words = y.words; stands = subst (λ (k : ℕ). Stands code k y.instr y.words) e y.stands }
      | inr less ↦ spelled_before code m n a q r s less
    ]

spelled_to : (code : List ℕ) (at : ℕ) → IsReached code at → length code ≤ at → (k : ℕ) → Start code k → IsSpelled code k
spelled_to code at r past k t =
    elim (cases_order t.count r.count) [
      | inl same ↦
          let e : k ≡ at = one_place code r.count k at (subst (λ (n : ℕ). Reached code n k) same t.reached) r.reached in
          absurd (omega (arith, t.below))
      | inr other ↦ elim other [
        | inl less ↦ spelled_before code t.count r.count k at t.reached r.reached less
        | inr more ↦ absurd (omega (arith, further code r.count t.count at k r.reached t.reached more, t.below))
      ]
    ]

pub whole : (o : Object) (p : Pass) → IsPassed o p → length o.code ≤ p.cursor.at → IsWhole o p
unfolding UnitsBelow
whole o p is past =
    let same : p.cursor.at ≡ length o.code = omega (arith, is.gone.reached.within) in
    record {
      spelled = spelled_to o.code p.cursor.at is.gone.reached past;
      units = λ k. ((λ h. ((is.units k).0 h).0), (λ u. (is.units k).1 (u, omega (arith, u.0.below))));
      transfers = λ k. ((λ h. ((is.gone.transfers k).0 h).0), (λ x. (is.gone.transfers k).1 (x, omega (arith, x.start.below))));
      each = λ k t. is.gone.each k t (omega (arith, t.below));
      first = subst (λ (n : ℕ). FirstIn o IsLocal 0 n p.first) same is.gone.first;
    }

pub stops : (o : Object) (p : Pass) → IsPassed o p → p.cursor.at < length o.code → NoneStands o.code p.cursor.at → Bad o.code p.cursor.at
stops o p is inside none = record { start = start_here o p is.gone inside; none = none }

-- ---- what is left to do

seen_most : (o : Object) (at : ℕ) (x : Option BegunGuard) → BegunAt o at x → seen x ≤ 14
seen_most o at None is = omega arith
seen_most o at (Some b) is = most b.kind is.most
  where
    most : (g : GuardKind) → b.words ≤ length (guard_words g) → b.words + 1 ≤ 14
    most guard.Store h = omega arith
    most (guard.Wide r) h = omega arith
    most guard.Load h = omega arith
    most guard.Growth h = omega arith
    most guard.Pop h = omega arith
    most guard.Sp h = omega arith

pub less_by_word : (o : Object) (p : Pass) (b : BegunGuard) → p.cursor.at < length o.code → IsBegun o p.cursor.at b → seen p.begun < b.words + 1 → left o (record p { begun = Some b }) < left o p
less_by_word o p b inside is more =
    let most : b.words + 1 ≤ 14 = seen_most o p.cursor.at (Some b) is in omega arith

pub less_by_unit : (o : Object) (p q : Pass) → p.cursor.at < length o.code → BegunAt o p.cursor.at p.begun → p.cursor.at < q.cursor.at → q.begun ≡ None → left o q < left o p
less_by_unit o p q inside is further none =
    let most : seen p.begun ≤ 14 = seen_most o p.cursor.at p.begun is in
    let zero' : seen q.begun ≡ 0 = ap seen none in omega arith

-- A guard with the instructions that it serves, one behind another.
use Rattle.std.proofs.Common.{◌≡◌, ℕ, zero, suc, ◌+◌, ◌≤◌, ◌<◌, ◌⊎◌, inl, inr, length, drop, add-one, Some, refl, sym, subst, ap, ◌∙◌, arith}
use Rattle.std.proofs.Math.Nat.{eq-or-lt_of_le}
use Rattle.std.proofs.lemmas.Bool.{cases_lt}
use Rattle.msp_encode.specs.declared.instr.Instr.{Instr}
use Rattle.msp_encode.specs.Forms.{IsReti}
use Rattle.code_model.specs.declared.object.Object.{Object}
use Rattle.code_model.specs.declared.guards.GuardKind.{GuardKind}
use Rattle.code_model.specs.declared.guards.GuardKind.TheVariants as guard
use Rattle.code_model.specs.declared.rules.Rule.{Rule}
use Rattle.code_model.specs.declared.rules.Rule.TheVariants as rule
use Rattle.code_model.specs.Starts.{Stands, Start}
use Rattle.code_model.specs.Guards.{Guarded, guard_words, FitAll, Serves, ServesAt, Run, most_served, least_version, CoversBy, Covers, Covered, Own, OwnBy, Interior, UnitStart}
use Rattle.code_model.specs.Rules.{Refuses}
use Rattle.code_laws.specs.Laws.{IsOneGuard}
use Rattle.code_laws.proofs.Standing.{size_least, same_size, same_instr}
use Rattle.code_laws.proofs.Starting.{starts_apart}
use Rattle.code_laws.proofs.DangerLemmas.{guarded_interior}
use Rattle.code_laws.proofs.Inside.{guards_apart}
use Rattle.code_laws.proofs.Landing.{guarded_free}
use Rattle.code_laws.proofs.Lines.{OnLine, on_guard_line}
use Rattle.code_laws.proofs.GuardRelocs.{right_relocs}
use Rattle.code_laws.proofs.Runs.{run_rises, first_before, also_guarded}
use Rattle.static_checker.specs.declared.spot.Spot.{Spot}
use Rattle.static_checker.specs.Spots.{IsStartSpot}
use Rattle.static_checker.specs.Firsts.{IsLocal}
use Rattle.static_checker.specs.CodeUnits.{IsGuardOf, NoGuardAcross, OneGuardAcross, HasServed, IsUnitSpot, IsNextInstr, IsNextServed, IsCodeUnit}
use Rattle.static_checker.specs.Passed.{IsReached}

-- ---- a place that is clear

pub clear_of : (o : Object) (at : ℕ) → NoGuardAcross o at → (guarded : ℕ) (g : GuardKind) (h : Guarded o guarded g) → h.first < at → guarded < at
unfolding NoGuardAcross
clear_of o at clear = clear

not_covered : (o : Object) (at : ℕ) → NoGuardAcross o at → Covered o at → ⊥
unfolding Covered Covers CoversBy
not_covered o at clear (guarded, most, (g, (h, before))) = omega (arith, clear_of o at clear guarded g h before)

pub unit_here : (o : Object) (at : ℕ) → Start o.code at → NoGuardAcross o at → UnitStart o at
unit_here o at start clear = (start, λ interior. not_covered o at clear interior.1)

-- ---- an instruction that a guard serves

module _ (o : Object) (g : GuardKind) (first : ℕ) (s : Spot) (here : IsStartSpot o.code s) (h : Guarded o s.at g) (e : h.first ≡ first) where
  one_here : (guarded : ℕ) (k : GuardKind) (j : Guarded o guarded k) → j.first ≤ s.at → s.at ≤ guarded → IsOneGuard o s.at guarded g k h j
  one_here guarded k j low high = guards_apart o s.at guarded s.at g k h j (omega (arith, first_before o s.at g h)) (omega arith) low high

  -- no other guard goes on over it
  one_on : OneGuardAcross o g first s.at → OneGuardAcross o g first (s.at + s.words)
  unfolding OneGuardAcross
  one_on was guarded k j less =
      elim (cases_lt j.first s.at) [
        | inl low ↦ elim (was guarded k j low) [ inl before ↦ inl (omega arith) | inr same ↦ inr same ]
        | inr high ↦ elim (cases_lt s.at j.first) [
          | inl after ↦ absurd (omega (arith, starts_apart o.code s.at j.first s.instr s.words here.start here.is.stands j.begins after))
          | inr low ↦
              let one = one_here guarded k j low (omega (arith, first_before o guarded k j)) in
              inr (sym one.kind, sym one.first ∙ e)
        ]
      ]

  guard_here : IsGuardOf o s.at (Some g)
  unfolding IsGuardOf
  guard_here k = (go, back)
    where
      go : Guarded o s.at k → Some g ≡ Some k
      go j = ap (λ (x : GuardKind). Some x) (one_here s.at k j (omega (arith, first_before o s.at k j)) (omega arith)).kind

      back : Some g ≡ Some k → Guarded o s.at k
      back f = let same : g ≡ k = cc in subst (λ (x : GuardKind). Guarded o s.at x) same h

  unit_spot : IsUnitSpot o (record { spot = s; guard = Some g })
  unit_spot = record { is = here; guard = guard_here; free = guarded_free o s.at g h }

  served_here : (count : ℕ) → Run g o first (first + length (guard_words g)) count s.at → Serves g o first s.at s.instr → Run g o first (first + length (guard_words g)) (suc count) (s.at + s.words)
  served_here count run serves = (s.at, run, (record { instr = s.instr; words = s.words; stands = here.is.stands; serves = serves }, refl))

-- ---- a guard's words with the first instruction that it serves

some_served : (g : GuardKind) → 0 < most_served g
some_served guard.Store = omega arith
some_served (guard.Wide r) = omega arith
some_served guard.Load = omega arith
some_served guard.Growth = omega arith
some_served guard.Pop = omega arith
some_served guard.Sp = omega arith

module _ (o : Object) (at : ℕ) (g : GuardKind) (s : Spot) (start : Start o.code at) (clear : NoGuardAcross o at) (fit : FitAll o at (guard_words g)) (known : least_version g ≤ o.version)
    (place : s.at ≡ at + length (guard_words g)) (here : IsStartSpot o.code s) (serves : Serves g o at s.at s.instr) where
  guarded_first : Guarded o s.at g
  guarded_first = record {
    start = here.start;
    first = at;
    base = at + length (guard_words g);
    ends = refl;
    begins = start;
    fit = fit;
    known = known;
    before = 0;
    few = some_served g;
    run = place;
    instr = s.instr;
    words = s.words;
    stands = here.is.stands;
    serves = serves;
  }

  before_spot : at < s.at
  unfolding guarded_first
  before_spot = first_before o s.at g guarded_first

  inside : at + length (guard_words g) < length o.code
  inside = omega (arith, place, here.start.below)

  one_before : OneGuardAcross o g at s.at
  unfolding OneGuardAcross guarded_first
  one_before guarded k j less =
      elim (cases_lt j.first at) [
        | inl before ↦ inl (omega (arith, clear_of o at clear guarded k j before, before_spot))
        | inr low ↦
            let one = guards_apart o s.at guarded j.first g k guarded_first j low (omega arith) (omega arith) (omega (arith, first_before o guarded k j)) in
            inr (sym one.kind, sym one.first)
      ]

  interior_in : (k : ℕ) → Start o.code k → at < k → k ≤ s.at → Interior o k
  unfolding Covered Covers CoversBy guarded_first
  interior_in k t low high = (t, (s.at, high, (g, (guarded_first, low))))

  inner_in : (k : ℕ) → Start o.code k → at < k → k < s.at + s.words → Interior o k
  inner_in k t low high =
      elim (cases_lt s.at k) [
        | inl after ↦ absurd (omega (arith, starts_apart o.code s.at k s.instr s.words here.start here.is.stands t after))
        | inr before ↦ interior_in k t low before
      ]

  each_in : (k : ℕ) → Start o.code k → at ≤ k → k < s.at + s.words → Interior o k ⊎ UnitStart o k
  each_in k t low high =
      elim (eq-or-lt_of_le low) [
        | inl same ↦ inr (subst (λ (n : ℕ). UnitStart o n) same (unit_here o at start clear))
        | inr less ↦ inl (inner_in k t less high)
      ]

  own_in : (k : ℕ) → Start o.code k → at ≤ k → k < s.at → Own o k
  unfolding Own OwnBy guarded_first
  own_in k t low high = (s.at, (g, (guarded_first, (low, omega (arith, place)))))

  line_there : (k : ℕ) → Start o.code k → at ≤ k → k < s.at → OnLine o k
  line_there k t low high = on_guard_line o at g fit start inside k t low (omega (arith, place))

  no_reti : (k : ℕ) → at ≤ k → k < s.at → Refuses rule.Reti o k → ⊥
  no_reti k low high x =
      let on = line_there k x.start low high in
      on.line.not_reti (subst (λ (i : Instr). IsReti i) (same_instr x.instr on.line.instr (drop k o.code) x.words on.words x.stands on.line.stands) x.breaks)

  no_end : (k : ℕ) → k < s.at → Refuses rule.End o k → ⊥
  no_end k high x = omega (arith, x.breaks.0, starts_apart o.code k s.at x.instr x.words x.start x.stands here.start high, here.start.below)

  quiet_in : (k : ℕ) (r : Rule) → at ≤ k → k < s.at → IsLocal r → Refuses r o k → ⊥
  quiet_in k rule.Spelled low high local x = local
  quiet_in k rule.Reti low high local x = no_reti k low high x
  quiet_in k rule.Pc low high local x = x.0 (own_in k x.1.start low high)
  quiet_in k rule.Sp low high local x = x.0 (own_in k x.1.start low high)
  quiet_in k rule.Sr low high local x = x.0 (own_in k x.1.start low high)
  quiet_in k rule.Store low high local x = x.0 (own_in k x.1.start low high)
  quiet_in k rule.Static low high local x = x.0 (own_in k x.1.start low high)
  quiet_in k rule.Pop low high local x = x.0 (own_in k x.1.start low high)
  quiet_in k rule.Push low high local x = x.0 (own_in k x.1.start low high)
  quiet_in k rule.Target low high local x = local
  quiet_in k rule.Jump low high local x = local
  quiet_in k rule.End low high local x = no_end k high x
  quiet_in k rule.Reloc low high local x = right_relocs o at g fit start inside k low (omega (arith, place)) x
  quiet_in k rule.Entry low high local x = local

  pub guard_unit : IsCodeUnit o at (record { spot = s; guard = Some g })
  unfolding guarded_first
  guard_unit = record {
    next = record {
      here = unit_spot o g at s here guarded_first refl;
      order = omega (arith, before_spot);
      each = each_in;
      quiet = quiet_in;
      own = own_in;
    };
    starts = unit_here o at start clear;
    inner = inner_in;
    behind = record {
      begins = start;
      fit = fit;
      known = known;
      run = served_here o g at s here guarded_first refl 0 place serves;
      one = one_on o g at s here guarded_first refl one_before;
    };
  }

-- ---- one more instruction

module _ (o : Object) (g : GuardKind) (first count : ℕ) (s : Spot) (was : HasServed o g first count s.at) (few : count < most_served g) (here : IsStartSpot o.code s) (serves : Serves g o first s.at s.instr) where
  guarded_next : Guarded o s.at g
  guarded_next = record {
    start = here.start;
    first = first;
    base = first + length (guard_words g);
    ends = refl;
    begins = was.begins;
    fit = was.fit;
    known = was.known;
    before = count;
    few = few;
    run = was.run;
    instr = s.instr;
    words = s.words;
    stands = here.is.stands;
    serves = serves;
  }

  inner_next : (k : ℕ) → Start o.code k → s.at ≤ k → k < s.at + s.words → Interior o k
  inner_next k t low high =
      elim (eq-or-lt_of_le low) [
        | inl same ↦ subst (λ (n : ℕ). Interior o n) same (guarded_interior o s.at g guarded_next)
        | inr less ↦ absurd (omega (arith, starts_apart o.code s.at k s.instr s.words here.start here.is.stands t less))
      ]

  instr_next : IsNextInstr o s.at (record { spot = s; guard = Some g })
  unfolding guarded_next
  instr_next = record {
    here = unit_spot o g first s here guarded_next refl;
    order = omega arith;
    each = λ k t low high. inl (inner_next k t low high);
    quiet = λ k r low high. absurd (omega arith);
    own = λ k t low high. absurd (omega arith);
  }

  behind_next : HasServed o g first (count + 1) (s.at + s.words)
  unfolding guarded_next
  behind_next = record {
    begins = was.begins;
    fit = was.fit;
    known = was.known;
    run = subst (λ (n : ℕ). Run g o first (first + length (guard_words g)) n (s.at + s.words)) (sym (add-one count)) (served_here o g first s here guarded_next refl count was.run serves);
    one = one_on o g first s here guarded_next refl was.one;
  }

  pub served_next : IsNextServed o first count s.at (record { spot = s; guard = Some g })
  served_next = record { next = instr_next; inner = inner_next; behind = behind_next }

-- ---- where it serves no more

run_one : (g : GuardKind) (o : Object) (first base n x y : ℕ) → Run g o first base n x → Run g o first base n y → x ≡ y
run_one g o first base zero x y p q = p ∙ sym q
run_one g o first base (suc n) x y (u, p, (s, e)) (v, q, (t, f)) =
    let same : u ≡ v = run_one g o first base n u v p q in
    let words : s.words ≡ t.words = same_size s.instr t.instr (drop v o.code) s.words t.words (subst (λ (k : ℕ). Stands o.code k s.instr s.words) same s.stands) t.stands in
    omega (arith, e, f)

run_further : (g : GuardKind) (o : Object) (first base m n x y : ℕ) → Run g o first base m x → Run g o first base n y → m < n → x < y
run_further g o first base m zero x y p q less = absurd (omega arith)
run_further g o first base m (suc n) x y p (v, q, (t, f)) less =
    let least : 1 ≤ t.words = size_least t.instr (drop v o.code) t.words t.stands in
    let most : m ≤ n = omega arith in
    elim (eq-or-lt_of_le most) [
      | inl same ↦
          let e : x ≡ v = run_one g o first base n x v (subst (λ (k : ℕ). Run g o first base k x) same p) q in omega (arith, f)
      | inr before ↦ omega (arith, run_further g o first base m n x v p q before, f)
    ]

module _ (o : Object) (g : GuardKind) (first count at : ℕ) (was : HasServed o g first count at) (reached : IsReached o.code at) where
  still : (never : (h : Guarded o at g) → h.first ≡ first → ⊥) (guarded : ℕ) (h : Guarded o guarded g) → h.first ≡ first → at ≤ guarded → ⊥
  still never guarded h e more =
      let start : Start o.code at = record { count = reached.count; reached = reached.reached; below = omega (arith, h.start.below) } in
      let base : h.base ≤ at = omega (arith, h.ends, run_rises g o first (first + length (guard_words g)) count at was.run) in
      let also = also_guarded o guarded at g h start base more in
      never also.guarded (also.first ∙ e)

  clear_if : ((h : Guarded o at g) → h.first ≡ first → ⊥) → NoGuardAcross o at
  unfolding NoGuardAcross OneGuardAcross
  clear_if never guarded k h less =
      elim (was.one guarded k h less) [
        | inl before ↦ before
        | inr same ↦ elim (cases_lt guarded at) [
          | inl before ↦ before
          | inr more ↦
              let P : GuardKind → Type 0 = λ x. (j : Guarded o guarded x) → j.first ≡ first → at ≤ guarded → ⊥ in
              absurd (subst P (sym same.0) (still never guarded) h same.1 more)
        ]
      ]

  pub clear_unserved : (ServesAt g o first at → ⊥) → NoGuardAcross o at
  clear_unserved none = clear_if (λ h e. none (record { instr = h.instr; words = h.words; stands = h.stands; serves = subst (λ (n : ℕ). Serves g o n at h.instr) e h.serves }))

  full : most_served g ≤ count → (h : Guarded o at g) → h.first ≡ first → ⊥
  full most h e =
      let base : h.base ≡ first + length (guard_words g) = omega (arith, h.ends) in
      let run : Run g o first (first + length (guard_words g)) h.before at = subst (λ (n : ℕ). Run g o first n h.before at) base (subst (λ (n : ℕ). Run g o n h.base h.before at) e h.run) in
      omega (arith, run_further g o first (first + length (guard_words g)) h.before count at at run was.run (omega (arith, h.few)))

  pub clear_full : most_served g ≤ count → NoGuardAcross o at
  clear_full most = clear_if (full most)

-- The gaps that are computed are the maximal runs.
use Rattle.std.proofs.Common.{◌≡◌, ℕ, ◌-◌, ◌<◌, ◌≤◌, Bool, true, false, not, List, ◌∷◌, [], map, leb, ltb, refl, ap, ◌∙◌, subst, inl, inr, ⊎_elim, arith, ◌&&◌}
use Rattle.std.proofs.lemmas.Bool.{cases_lt, and_parts, and_from, leb-true, ltb-true, le-leb, lt-ltb, or_cases, or_left, or_right, both_ways, false_from_ne_true, not-true, not_from_false}
use Rattle.std.specs.List.{filter}
use Rattle.place_model.specs.declared.places.Range.{Range}
use Rattle.place_model.specs.Gaps.{holds, taken, IsGap, has_some, begins_from, run_end, gap_starts, gap_from, gaps}
use Rattle.place_model.proofs.Members.{In, in_map, map_in, in_filter, filter_in, least_below, least_member, least_is}

-- ---- addresses of ranges

pub holds_from : (at : ℕ) (r : Range) → r.from ≤ at → at < r.to → holds at r ≡ true
holds_from at r a b = and_from (leb r.from at) (ltb at r.to) (le-leb r.from at a) (lt-ltb at r.to b)

pub holds_parts : (at : ℕ) (r : Range) → holds at r ≡ true → (r.from ≤ at) × (at < r.to)
holds_parts at r h =
    let p : (leb r.from at ≡ true) × (ltb at r.to ≡ true) = and_parts (leb r.from at) (ltb at r.to) h in
    (leb-true r.from at p.0, ltb-true at r.to p.1)

pub taken_from : (rs : List Range) (at : ℕ) (r : Range) → In r rs → r.from ≤ at → at < r.to → taken rs at ≡ true
taken_from [] at r i a b = absurd i
taken_from (x ∷ xs) at r (inl e) a b = or_left (holds at x) (taken xs at) (ap (holds at) e ∙ holds_from at r a b)
taken_from (x ∷ xs) at r (inr i) a b = or_right (holds at x) (taken xs at) (taken_from xs at r i a b)

-- a range that has the address
pub record Holder (rs : List Range) (at : ℕ) : Type 0 where
  pub range : Range
  pub member : In range rs
  pub from : range.from ≤ at
  pub to : at < range.to

pub taken_by : (rs : List Range) (at : ℕ) → taken rs at ≡ true → Holder rs at
taken_by [] at h = absurd (both_ways false refl h)
taken_by (x ∷ xs) at h = ⊎_elim
    (λ (q : holds at x ≡ true). let p : (x.from ≤ at) × (at < x.to) = holds_parts at x q in record { range = x; member = inl refl; from = p.0; to = p.1 })
    (λ (q : taken xs at ≡ true). let r : Holder xs at = taken_by xs at q in record { range = r.range; member = inr r.member; from = r.from; to = r.to })
    (or_cases (holds at x) (taken xs at) h)

-- ---- the end of a run

module _ (pool : Range) (rs : List Range) (at : ℕ) (free : taken rs at ≡ false) where
  later : (r : Range) → In r (filter (begins_from at) rs) → In r rs × (at < r.from) × (r.from < r.to)
  later r i =
      let p : In r rs × (begins_from at r ≡ true) = filter_in (begins_from at) rs r i in
      let q : (leb at r.from ≡ true) × (ltb r.from r.to ≡ true) = and_parts (leb at r.from) (ltb r.from r.to) p.1 in
      let some : r.from < r.to = ltb-true r.from r.to q.1 in
      let from : at ≤ r.from = leb-true at r.from q.0 in (
        p.0,
        ⊎_elim
            (λ (l : at < r.from). l)
            (λ (g : r.from ≤ at). absurd (both_ways (taken rs at) free (taken_from rs at r p.0 g (omega arith))))
            (cases_lt at r.from),
        some,
      )

  pub run_bound : run_end pool rs at ≤ pool.to
  run_bound = least_below (λ (r : Range). r.from) pool.to (filter (begins_from at) rs)

  pub run_past : at < pool.to → at < run_end pool rs at
  run_past h = ⊎_elim
      (λ (q : run_end pool rs at ≡ pool.to). omega arith)
      (λ (q : (r : Range) × In r (filter (begins_from at) rs) × (run_end pool rs at ≡ r.from)).
      let l : In q.0 rs × (at < q.0.from) × (q.0.from < q.0.to) = later q.0 q.1 in omega (arith, l.1, q.2))
      (least_is (λ (r : Range). r.from) pool.to (filter (begins_from at) rs))

  pub run_free : (x : ℕ) → at ≤ x → x < run_end pool rs at → taken rs x ≡ false
  run_free x a b = false_from_ne_true (taken rs x) (λ (t : taken rs x ≡ true).
      let h : Holder rs x = taken_by rs x t in
      ⊎_elim
      (λ (l : h.range.from < at). both_ways (taken rs at) free (taken_from rs at h.range h.member (omega arith) (omega (arith, h.to))))
      (λ (g : at ≤ h.range.from).
      let begins : begins_from at h.range ≡ true =
      and_from (leb at h.range.from) (ltb h.range.from h.range.to) (le-leb at h.range.from g) (lt-ltb h.range.from h.range.to (omega (arith, h.from, h.to))) in
      let below : run_end pool rs at ≤ h.range.from =
      least_member (λ (r : Range). r.from) pool.to (filter (begins_from at) rs) h.range (in_filter (begins_from at) rs h.range h.member begins) in
      absurd (omega (arith, h.from)))
      (cases_lt h.range.from at))

  pub run_last : run_end pool rs at < pool.to → taken rs (run_end pool rs at) ≡ true
  run_last h = ⊎_elim
      (λ (q : run_end pool rs at ≡ pool.to). absurd (omega arith))
      (λ (q : (r : Range) × In r (filter (begins_from at) rs) × (run_end pool rs at ≡ r.from)).
      let l : In q.0 rs × (at < q.0.from) × (q.0.from < q.0.to) = later q.0 q.1 in
      taken_from rs (run_end pool rs at) q.0 l.0 (omega (arith, q.2)) (omega (arith, q.2, l.2)))
      (least_is (λ (r : Range). r.from) pool.to (filter (begins_from at) rs))

-- ---- where gaps begin

abbrev pub begins : (pool : Range) → List Range → ℕ → Bool
begins pool rs at = holds at pool && not (taken rs at)

abbrev pub candidates : (pool : Range) → List Range → List ℕ
candidates pool rs = pool.from ∷ map (λ (r : Range). r.to) (filter has_some rs)

behind : (pool : Range) (rs : List Range) (at : ℕ) → In at (candidates pool rs) → pool.from < at → taken rs (at - 1) ≡ true
behind pool rs at (inl e) h = absurd (omega arith)
behind pool rs at (inr i) h =
    let p : (r : Range) × In r (filter has_some rs) × (r.to ≡ at) = map_in (λ (r : Range). r.to) (filter has_some rs) at i in
    let q : In p.0 rs × (has_some p.0 ≡ true) = filter_in has_some rs p.0 p.1 in
    let some : p.0.from < p.0.to = ltb-true p.0.from p.0.to q.1 in
    taken_from rs (at - 1) p.0 q.0 (omega (arith, p.2)) (omega (arith, p.2))

pub gap_at : (pool : Range) (rs : List Range) (at : ℕ) → In at (gap_starts pool rs) → IsGap pool rs (gap_from pool rs at)
gap_at pool rs at i =
    let p : In at (candidates pool rs) × (begins pool rs at ≡ true) = filter_in (begins pool rs) (candidates pool rs) at i in
    let q : (holds at pool ≡ true) × (not (taken rs at) ≡ true) = and_parts (holds at pool) (not (taken rs at)) p.1 in
    let free : taken rs at ≡ false = not-true (taken rs at) q.1 in
    let inside : (pool.from ≤ at) × (at < pool.to) = holds_parts at pool q.0 in
    record {
      some = run_past pool rs at free inside.1;
      from_inside = inside.0;
      to_inside = run_bound pool rs at free;
      free = run_free pool rs at free;
      first = behind pool rs at p.0;
      last = run_last pool rs at free;
    }

-- a gap begins at the pool's start or directly behind a range
start_candidate : (pool : Range) (rs : List Range) (g : Range) → IsGap pool rs g → In g.from (candidates pool rs)
start_candidate pool rs g h = ⊎_elim
    (λ (l : pool.from < g.from).
    let t : Holder rs (g.from - 1) = taken_by rs (g.from - 1) (h.first l) in
    let free : taken rs g.from ≡ false = h.free g.from (omega arith) h.some in
    let ends : t.range.to ≡ g.from = ⊎_elim
    (λ (m : g.from < t.range.to). absurd (both_ways (taken rs g.from) free (taken_from rs g.from t.range t.member (omega (arith, t.from)) m)))
    (λ (m : t.range.to ≤ g.from). omega (arith, t.to))
    (cases_lt g.from t.range.to) in
    let some : has_some t.range ≡ true = lt-ltb t.range.from t.range.to (omega (arith, t.from, t.to)) in
    inr (subst (λ (a : ℕ). In a (map (λ (r : Range). r.to) (filter has_some rs))) ends
    (in_map (λ (r : Range). r.to) (filter has_some rs) t.range (in_filter has_some rs t.range t.member some))))
    (λ (m : g.from ≤ pool.from). inl (omega (arith, h.from_inside)))
    (cases_lt pool.from g.from)

pub gap_start : (pool : Range) (rs : List Range) (g : Range) → IsGap pool rs g → In g.from (gap_starts pool rs)
gap_start pool rs g h =
    let free : taken rs g.from ≡ false = h.free g.from (omega arith) h.some in
    in_filter (begins pool rs) (candidates pool rs) g.from (start_candidate pool rs g h)
    (and_from (holds g.from pool) (not (taken rs g.from)) (holds_from g.from pool h.from_inside (omega (arith, h.some, h.to_inside))) (not_from_false (taken rs g.from) free))

pub gap_end : (pool : Range) (rs : List Range) (g : Range) → IsGap pool rs g → run_end pool rs g.from ≡ g.to
gap_end pool rs g h =
    let free : taken rs g.from ≡ false = h.free g.from (omega arith) h.some in
    let bound : run_end pool rs g.from ≤ pool.to = run_bound pool rs g.from free in
    let past : g.from < run_end pool rs g.from = run_past pool rs g.from free (omega (arith, h.some, h.to_inside)) in
    ⊎_elim
    (λ (l : run_end pool rs g.from < g.to).
    absurd (both_ways (taken rs (run_end pool rs g.from)) (h.free (run_end pool rs g.from) (omega arith) l)
    (run_last pool rs g.from free (omega (arith, h.to_inside)))))
    (λ (m : g.to ≤ run_end pool rs g.from). ⊎_elim
    (λ (l : g.to < run_end pool rs g.from).
    absurd (both_ways (taken rs g.to) (run_free pool rs g.from free g.to (omega (arith, h.some)) l) (h.last (omega arith))))
    (λ (q : run_end pool rs g.from ≤ g.to). omega arith)
    (cases_lt g.to (run_end pool rs g.from)))
    (cases_lt (run_end pool rs g.from) g.to)

-- ---- the two directions

pub gap_in : (pool : Range) (rs : List Range) (g : Range) → In g (gaps pool rs) → IsGap pool rs g
unfolding gaps
gap_in pool rs g i =
    let p : (at : ℕ) × In at (gap_starts pool rs) × (gap_from pool rs at ≡ g) = map_in (gap_from pool rs) (gap_starts pool rs) g i in
    subst (λ (r : Range). IsGap pool rs r) p.2 (gap_at pool rs p.0 p.1)

pub in_gaps : (pool : Range) (rs : List Range) (g : Range) → IsGap pool rs g → In g (gaps pool rs)
unfolding gaps
in_gaps pool rs g h =
    let same : gap_from pool rs g.from ≡ g = ap (λ (e : ℕ). let r : Range = record { from = g.from; to = e } in r) (gap_end pool rs g h) in
    subst (λ (r : Range). In r (map (gap_from pool rs) (gap_starts pool rs))) same
    (in_map (gap_from pool rs) (gap_starts pool rs) g.from (gap_start pool rs g h))

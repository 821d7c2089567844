-- A computed place is the lowest gap that fits.
use Rattle.std.proofs.Common.{◌≡◌, ◌≢◌, ℕ, ◌<◌, ◌≤◌, Bool, true, List, leb, eqb, cond, refl, ap, sym, ◌∙◌, subst, inl, inr, ⊎_elim, arith, Result, Ok, Err}
use Rattle.std.proofs.lemmas.Bool.{cases_lt, cases_eq, leb-true, le-leb, lt-leb, eq-eqb, ne_eqb, cond-true, cond-false}
use Rattle.std.specs.List.{filter}
use Rattle.place_model.specs.declared.places.Range.{Range}
use Rattle.place_model.specs.Gaps.{size, IsGap, gaps, longest, lowest, place_in, IsLowestGap, IsPlace, IsLongestGap, HasNoPlace}
use Rattle.place_model.proofs.Members.{In, in_filter, filter_in, least_member, least_is, greatest_member, greatest_is}
use Rattle.place_model.proofs.GapLemmas.{gap_in, in_gaps}

-- ---- the longest and the lowest

pub longest_is : (pool : Range) (rs : List Range) → IsLongestGap pool rs (longest (gaps pool rs))
unfolding longest
longest_is pool rs = record {
  bound = λ g h. greatest_member size 0 (gaps pool rs) g (in_gaps pool rs g h);
  reached = λ n. ⊎_elim
      (λ (q : longest (gaps pool rs) ≡ 0). absurd (n q))
      (λ (q : (g : Range) × In g (gaps pool rs) × (longest (gaps pool rs) ≡ size g)). (q.0, gap_in pool rs q.0 q.1, sym q.2))
      (greatest_is size 0 (gaps pool rs));
}

abbrev fits : ℕ → Range → Bool
fits need g = leb need (size g)

abbrev fitting : Range → List Range → ℕ → List Range
fitting pool rs need = filter (fits need) (gaps pool rs)

from_of : Range → ℕ
from_of r = r.from

lowest_is : (pool : Range) (rs : List Range) (need : ℕ) → need ≢ 0 → need ≤ longest (gaps pool rs) → IsLowestGap pool rs need (lowest pool.to need (gaps pool rs))
unfolding lowest
lowest_is pool rs need some room =
    let long : IsLongestGap pool rs (longest (gaps pool rs)) = longest_is pool rs in
    let there : (g : Range) × IsGap pool rs g × (size g ≡ longest (gaps pool rs)) = long.reached (omega arith) in
    let low : ℕ = lowest pool.to need (gaps pool rs) in
    let least : (g : Range) → IsGap pool rs g → need ≤ size g → low ≤ g.from = λ g h enough.
    least_member (λ (r : Range). r.from) pool.to (fitting pool rs need) g (in_filter (fits need) (gaps pool rs) g (in_gaps pool rs g h) (le-leb need (size g) enough)) in
    let below : low ≤ there.0.from = least there.0 there.1 (omega (arith, there.2)) in
    ⊎_elim
    (λ (q : low ≡ pool.to). absurd (omega (arith, there.1.some, there.1.to_inside)))
    (λ (q : (g : Range) × In g (fitting pool rs need) × (low ≡ g.from)).
    let p : In q.0 (gaps pool rs) × (fits need q.0 ≡ true) = filter_in (fits need) (gaps pool rs) q.0 q.1 in
    let enough : need ≤ size q.0 = leb-true need (size q.0) p.1 in
    let gap : IsGap pool rs q.0 = gap_in pool rs q.0 p.0 in
    record {
      end = q.0.to;
      gap = subst (λ (a : ℕ). IsGap pool rs (record { from = a; to = q.0.to })) (sym q.2) gap;
      fits = omega (arith, q.2, gap.some);
      least = least;
    })
    (least_is (λ (r : Range). r.from) pool.to (fitting pool rs need))

-- ---- there is one answer

lowest_twice : (pool : Range) (rs : List Range) (need a b : ℕ) → IsLowestGap pool rs need a → IsLowestGap pool rs need b → a ≤ b
lowest_twice pool rs need a b x y = x.least (record { from = b; to = y.end }) y.gap (omega (arith, y.fits))

same_place : (pool : Range) (rs : List Range) (need a b : ℕ) → IsPlace pool rs need a → IsPlace pool rs need b → a ≡ b
same_place pool rs need a b (inl x) (inl y) = x.1 ∙ sym y.1
same_place pool rs need a b (inl x) (inr y) = absurd (y.0 x.0)
same_place pool rs need a b (inr x) (inl y) = absurd (x.0 y.0)
same_place pool rs need a b (inr x) (inr y) =
    let p : a ≤ b = lowest_twice pool rs need a b x.1 y.1 in
    let q : b ≤ a = lowest_twice pool rs need b a y.1 x.1 in
    omega arith

longest_twice : (pool : Range) (rs : List Range) (a b : ℕ) → IsLongestGap pool rs a → IsLongestGap pool rs b → a ≤ b
longest_twice pool rs a b x y = ⊎_elim
    (λ (e : a ≡ 0). omega arith)
    (λ (n : a ≡ 0 → ⊥).
    let g : (g : Range) × IsGap pool rs g × (size g ≡ a) = x.reached n in
    let h : size g.0 ≤ b = y.bound g.0 g.1 in omega (arith, g.2))
    (cases_eq a 0)

same_gap : (pool : Range) (rs : List Range) (need a b : ℕ) → HasNoPlace pool rs need a → HasNoPlace pool rs need b → a ≡ b
same_gap pool rs need a b x y =
    let p : a ≤ b = longest_twice pool rs a b x.gap y.gap in
    let q : b ≤ a = longest_twice pool rs b a y.gap x.gap in
    omega arith

one_of_both : (pool : Range) (rs : List Range) (need a b : ℕ) → IsPlace pool rs need a → HasNoPlace pool rs need b → ⊥
one_of_both pool rs need a b (inl x) y = y.needed x.0
one_of_both pool rs need a b (inr x) y =
    let g : Range = record { from = a; to = x.1.end } in
    let h : size g ≤ b = y.gap.bound g x.1.gap in
    omega (arith, x.1.fits, y.longer)

-- ---- the answer

data Answer (pool : Range) (rs : List Range) (need : ℕ) : Type 0 where
  placed : (at : ℕ) → place_in pool rs need ≡ Ok at → IsPlace pool rs need at → Answer pool rs need
  refused : (gap : ℕ) → place_in pool rs need ≡ Err gap → HasNoPlace pool rs need gap → Answer pool rs need

abbrev by_length : (pool : Range) → List Range → (need : ℕ) → Result ℕ ℕ
by_length pool rs need = cond (leb need (longest (gaps pool rs))) (Ok (lowest pool.to need (gaps pool rs))) (Err (longest (gaps pool rs)))

answer : (pool : Range) (rs : List Range) (need : ℕ) → Answer pool rs need
answer pool rs need = ⊎_elim
    (λ (e : need ≡ 0). placed pool.from (cond-true (eqb need 0) (Ok pool.from) (by_length pool rs need) (eq-eqb need 0 e)) (inl (e, refl)))
    (λ (n : need ≡ 0 → ⊥).
    let other : place_in pool rs need ≡ by_length pool rs need = cond-false (eqb need 0) (Ok pool.from) (by_length pool rs need) (ne_eqb need 0 n) in
    ⊎_elim
    (λ (l : longest (gaps pool rs) < need).
    refused (longest (gaps pool rs))
    (other ∙ cond-false (leb need (longest (gaps pool rs))) (Ok (lowest pool.to need (gaps pool rs))) (Err (longest (gaps pool rs))) (lt-leb need (longest (gaps pool rs)) l))
    (record { needed = n; longer = l; gap = longest_is pool rs }))
    (λ (g : need ≤ longest (gaps pool rs)).
    placed (lowest pool.to need (gaps pool rs))
    (other ∙ cond-true (leb need (longest (gaps pool rs))) (Ok (lowest pool.to need (gaps pool rs))) (Err (longest (gaps pool rs))) (le-leb need (longest (gaps pool rs)) g))
    (inr (n, lowest_is pool rs need n g)))
    (cases_lt (longest (gaps pool rs)) need))
    (cases_eq need 0)

value : Result ℕ ℕ → ℕ
value (Ok a) = a
value (Err b) = b

is_placed : Result ℕ ℕ → Type 0
is_placed (Ok a) = Unit
is_placed (Err b) = ⊥

pub place_right : (pool : Range) (rs : List Range) (need at : ℕ) → place_in pool rs need ≡ Ok at → IsPlace pool rs need at
unfolding value is_placed
place_right pool rs need at h = elim (answer pool rs need) [ placed a e p ↦ subst (λ (x : ℕ). IsPlace pool rs need x) (ap value (sym e ∙ h)) p | refused b e p ↦ absurd (subst is_placed (sym h ∙ e) tt) ]

pub place_only : (pool : Range) (rs : List Range) (need at : ℕ) → IsPlace pool rs need at → place_in pool rs need ≡ Ok at
place_only pool rs need at h = elim (answer pool rs need) [ placed a e p ↦ e ∙ ap (λ (x : ℕ). let r : Result ℕ ℕ = Ok x in r) (same_place pool rs need a at p h) | refused b e p ↦ absurd (one_of_both pool rs need at b h p) ]

pub gap_right : (pool : Range) (rs : List Range) (need gap : ℕ) → place_in pool rs need ≡ Err gap → HasNoPlace pool rs need gap
unfolding value is_placed
gap_right pool rs need gap h = elim (answer pool rs need) [ placed a e p ↦ absurd (subst is_placed (sym e ∙ h) tt) | refused b e p ↦ subst (λ (x : ℕ). HasNoPlace pool rs need x) (ap value (sym e ∙ h)) p ]

pub gap_only : (pool : Range) (rs : List Range) (need gap : ℕ) → HasNoPlace pool rs need gap → place_in pool rs need ≡ Err gap
gap_only pool rs need gap h = elim (answer pool rs need) [ placed a e p ↦ absurd (one_of_both pool rs need a gap p h) | refused b e p ↦ e ∙ ap (λ (x : ℕ). let r : Result ℕ ℕ = Err x in r) (same_gap pool rs need b gap p h) ]

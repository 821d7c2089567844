-- Lists that loops make, element by element.
use Rattle.std.proofs.Common.{◌≡◌, ℕ, zero, suc, ◌+◌, ◌<◌, ◌≤◌, Bool, true, false, not, ◌&&◌, List, [], ◌∷◌, ◌++◌, length, get_or, take, map, refl, ap, sym, ◌∙◌, Option, Some, None, arith, ⊎_elim}
use Rattle.std.proofs.lemmas.List.{map-append, take_all}
use Rattle.std.proofs.lemmas.List.Elements.{filter_more, filter-append}
use Rattle.std.proofs.lemmas.Bool.{cases_eq, cond-true, cond-false}
use Rattle.std.specs.List.{filter, find, range_with_len}
use Rattle.place_model.specs.declared.places.Range.{Range}
use Rattle.place_model.specs.declared.places.DomainRow.{DomainRow}
use Rattle.place_model.specs.Placing.{is_free}
use Rattle.place_model.specs.Gaps.{holds, taken, has_some, gap_from, gaps}
use Rattle.region_table.specs.Searching.{gaps_at, ends}

-- ---- the ranges of a pool

abbrev in_use : DomainRow → Bool
in_use r = not (is_free r)

abbrev begins : Range → List Range → ℕ → Bool
begins pool rs at = holds at pool && not (taken rs at)

-- ---- gaps

pub gaps_at-append : (pool : Range) (rs : List Range) (xs ys : List ℕ) → gaps_at pool rs (xs ++ ys) ≡ gaps_at pool rs xs ++ gaps_at pool rs ys
unfolding gaps_at
gaps_at-append pool rs xs ys =
    ap (λ (l : List ℕ). map (gap_from pool rs) l) (filter-append (begins pool rs) xs ys)
    ∙ map-append (gap_from pool rs) (filter (begins pool rs) xs) (filter (begins pool rs) ys)

ends_more : (rs : List Range) (i : ℕ) (d : Range) → i < length rs → ends (take (i + 1) rs) ≡ ends (take i rs) ++ ends (get_or rs i d ∷ [])
ends_more rs i d h =
    ap (λ (l : List Range). map (λ (r : Range). r.to) l) (filter_more has_some rs i d h)
    ∙ map-append (λ (r : Range). r.to) (filter has_some (take i rs)) (filter has_some (get_or rs i d ∷ []))

pub gaps_more : (pool : Range) (rs : List Range) (i : ℕ) (d : Range) (old now : List Range) → i < length rs → old ≡ gaps_at pool rs (pool.from ∷ ends (take i rs))
    → now ≡ old ++ gaps_at pool rs (ends (get_or rs i d ∷ [])) → now ≡ gaps_at pool rs (pool.from ∷ ends (take (i + 1) rs))
gaps_more pool rs i d old now h o e =
    e
    ∙ ap (λ (l : List Range). l ++ gaps_at pool rs (ends (get_or rs i d ∷ []))) o
    ∙ sym (gaps_at-append pool rs (pool.from ∷ ends (take i rs)) (ends (get_or rs i d ∷ [])))
    ∙ ap (λ (l : List ℕ). gaps_at pool rs (pool.from ∷ l)) (sym (ends_more rs i d h))

pub gaps_all : (pool : Range) (rs : List Range) (n : ℕ) (now : List Range) → length rs ≤ n → now ≡ gaps_at pool rs (pool.from ∷ ends (take n rs)) → now ≡ gaps pool rs
unfolding gaps_at gaps
gaps_all pool rs n now h e = e ∙ ap (λ (l : List Range). gaps_at pool rs (pool.from ∷ ends l)) (take_all n rs h)

-- ---- the least number

pub find_none : (test : ℕ → Bool) (first count : ℕ) → ((k : ℕ) → first ≤ k → k < first + count → test k ≡ false) → find test (range_with_len first count) ≡ None
find_none test first zero h = refl
find_none test first (suc n) h =
    let rest : find test (range_with_len (first + 1) n) ≡ None = find_none test (first + 1) n (λ k a b. h k (omega arith) (omega arith)) in
    cond-false (test first) (Some first) (find test (range_with_len (first + 1) n)) (h first (omega arith) (omega arith)) ∙ rest

pub find_first : (test : ℕ → Bool) (first count n : ℕ) → first ≤ n → n < first + count → ((k : ℕ) → first ≤ k → k < n → test k ≡ false) → test n ≡ true
    → find test (range_with_len first count) ≡ Some n
find_first test first zero n a b h t = absurd (omega arith)
find_first test first (suc count) n a b h t = ⊎_elim
    (λ (e : first ≡ n).
    cond-true (test first) (Some first) (find test (range_with_len (first + 1) count)) (ap test e ∙ t) ∙ ap (λ (k : ℕ). let o : Option ℕ = Some k in o) e)
    (λ (ne : first ≡ n → ⊥).
    cond-false (test first) (Some first) (find test (range_with_len (first + 1) count)) (h first (omega arith) (omega arith))
    ∙ find_first test (first + 1) count n (omega arith) (omega arith) (λ k c d. h k (omega arith) d) t)
    (cases_eq first n)

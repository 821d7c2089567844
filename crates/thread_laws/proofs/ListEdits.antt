-- What stands in a list, and in which order, after a number was put into it or taken out.
use Rattle.std.proofs.Common.{◌≡◌, ◌≢◌, ◌⊎◌, ℕ, ◌+◌, ◌-◌, ◌<◌, ◌≤◌, zero, suc, inl, inr, List, [], ◌∷◌, length, get_or, refl, ap, sym, ◌∙◌, subst, ⊎_elim, arith, insert, remove, AllPairs, Contains}
use Rattle.std.proofs.lemmas.Bool.{cases_lt, cases_order}
use Rattle.std.proofs.lemmas.List.{get_or_default}
use Rattle.std.proofs.lemmas.List.Edits.{length-insert, get_or-insert_below, get_or-insert_at, get_or-insert_above, length-remove, get_or-remove_below, get_or-remove_above}
use Rattle.std.proofs.lemmas.List.Elements.{Contains-get_or}

-- ---- one member

single_at : (t u i : ℕ) → i < 1 → get_or (t ∷ []) i u ≡ u → u ≡ t
single_at t u zero l e = sym e
single_at t u (suc i) l e = absurd (omega arith)

pub single_is : (t u : ℕ) → Contains (t ∷ []) u → u ≡ t
single_is t u c = single_at t u c.0 c.1 c.2

pub single_has : (t : ℕ) → Contains (t ∷ []) t
single_has t = (0, omega arith, refl)

pub single_once : (t : ℕ) → AllPairs (λ x y. x ≢ y) (t ∷ [])
single_once t i j d lt l = absurd (omega arith)

pub none_in : (u : ℕ) → Contains {X = ℕ} [] u → ⊥
none_in u c = (let l : c.0 < 0 = c.1 in omega arith)

-- ---- put in

pub insert_has : (xs : List ℕ) (i t : ℕ) → i ≤ length xs → Contains (insert xs i t) t
insert_has xs i t h = (i, omega (arith, length-insert xs i t h), get_or-insert_at xs i t t h)

pub insert_keeps : (xs : List ℕ) (i t u : ℕ) → i ≤ length xs → Contains xs u → Contains (insert xs i t) u
insert_keeps xs i t u h c =
    let within : c.0 < length xs = c.1 in
    let size : length (insert xs i t) ≡ length xs + 1 = length-insert xs i t h in
    ⊎_elim
    (λ (below : c.0 < i). (c.0, omega arith, get_or-insert_below xs i t u c.0 below h ∙ c.2))
    (λ (on : i ≤ c.0). (c.0 + 1, omega arith, get_or-insert_above xs i t u c.0 on h ∙ c.2))
    (cases_lt c.0 i)

pub insert_from : (xs : List ℕ) (i t u : ℕ) → i ≤ length xs → Contains (insert xs i t) u → (u ≡ t) ⊎ Contains xs u
insert_from xs i t u h c =
    let size : length (insert xs i t) ≡ length xs + 1 = length-insert xs i t h in
    let within : c.0 < length (insert xs i t) = c.1 in
    ⊎_elim
    (λ (here : c.0 ≡ i). inl (sym c.2 ∙ ap (λ n. get_or (insert xs i t) n u) here ∙ get_or-insert_at xs i t u h))
    (⊎_elim
    (λ (below : c.0 < i). inr (c.0, omega arith, sym (get_or-insert_below xs i t u c.0 below h) ∙ c.2))
    (λ (above : i < c.0).
    let n : ℕ = c.0 - 1 in
    let next : n + 1 ≡ c.0 = omega arith in
    inr (n, omega arith, sym (get_or-insert_above xs i t u n (omega arith) h) ∙ ap (λ m. get_or (insert xs i t) m u) next ∙ c.2)))
    (cases_order c.0 i)

-- an insert between what stands before and what stands behind
pub all_pairs_insert : (R : ℕ → ℕ → Type 0) (xs : List ℕ) (i y : ℕ) → i ≤ length xs → AllPairs R xs
    → ((k d : ℕ) → k < i → R (get_or xs k d) y) → ((k d : ℕ) → i ≤ k → k < length xs → R y (get_or xs k d)) → AllPairs R (insert xs i y)
all_pairs_insert R xs i y h pairs before behind a b d lt l =
    let zs : List ℕ = insert xs i y in
    let size : length zs ≡ length xs + 1 = length-insert xs i y h in
    let moved : (u v u' v' : ℕ) → u' ≡ u → v' ≡ v → R u v → R u' v' = λ u v u' v' e f r. subst (λ (x : ℕ). R x v') (sym e) (subst (λ (x : ℕ). R u x) (sym f) r) in
    let below : (k : ℕ) → k < i → get_or zs k d ≡ get_or xs k d = λ k lk. get_or-insert_below xs i y d k lk h in
    let here : (k : ℕ) → k ≡ i → get_or zs k d ≡ y = λ k e. ap (λ n. get_or zs n d) e ∙ get_or-insert_at xs i y d h in
    let above : (k : ℕ) → i < k → get_or zs k d ≡ get_or xs (k - 1) d =
    λ k lk. let next : k ≡ k - 1 + 1 = omega arith in ap (λ n. get_or zs n d) next ∙ get_or-insert_above xs i y d (k - 1) (omega arith) h in
    ⊎_elim
    (λ (at : b ≡ i). moved _ _ _ _ (below a (omega arith)) (here b at) (before a d (omega arith)))
    (⊎_elim
    (λ (lb : b < i). moved _ _ _ _ (below a (omega arith)) (below b lb) (pairs a b d lt (omega arith)))
    (λ (ub : i < b). ⊎_elim
    (λ (at : a ≡ i). moved _ _ _ _ (here a at) (above b ub) (behind (b - 1) d (omega arith) (omega arith)))
    (⊎_elim
    (λ (la : a < i). moved _ _ _ _ (below a la) (above b ub) (pairs a (b - 1) d (omega arith) (omega arith)))
    (λ (ua : i < a). moved _ _ _ _ (above a ua) (above b ub) (pairs (a - 1) (b - 1) d (omega arith) (omega arith))))
    (cases_order a i)))
    (cases_order b i)

-- what isn't in a list is none of its members
pub not_member : (xs : List ℕ) (t : ℕ) → (Contains xs t → ⊥) → (k d : ℕ) → k < length xs → get_or xs k d ≢ t
not_member xs t out k d h e = out (subst (λ (x : ℕ). Contains xs x) e (Contains-get_or xs k d h))

pub insert_once : (xs : List ℕ) (i t : ℕ) → i ≤ length xs → AllPairs (λ x y. x ≢ y) xs → (Contains xs t → ⊥) → AllPairs (λ x y. x ≢ y) (insert xs i t)
insert_once xs i t h once out =
    all_pairs_insert (λ x y. x ≢ y) xs i t h once (λ k d l. not_member xs t out k d (omega arith)) (λ k d on l e. not_member xs t out k d l (sym e))

-- ---- taken out

pub remove_keeps : (xs : List ℕ) (i u : ℕ) → i < length xs → u ≢ get_or xs i 0 → Contains xs u → Contains (remove xs i) u
remove_keeps xs i u h ne c =
    let size : length (remove xs i) + 1 ≡ length xs = length-remove xs i h in
    let within : c.0 < length xs = c.1 in
    ⊎_elim
    (λ (here : c.0 ≡ i). absurd (ne (sym c.2 ∙ ap (λ n. get_or xs n u) here ∙ get_or_default xs i u 0 h)))
    (⊎_elim
    (λ (below : c.0 < i). (c.0, omega arith, get_or-remove_below xs i u c.0 below h ∙ c.2))
    (λ (above : i < c.0).
    let n : ℕ = c.0 - 1 in
    let next : n + 1 ≡ c.0 = omega arith in
    (n, omega arith, get_or-remove_above xs i u n (omega arith) h ∙ ap (λ m. get_or xs m u) next ∙ c.2)))
    (cases_order c.0 i)

-- what is left stood at another place than the one taken out
remove_place : (xs : List ℕ) (i u : ℕ) → i < length xs → Contains (remove xs i) u → (n : ℕ) × (n < length xs) × (n ≢ i) × (get_or xs n u ≡ u)
remove_place xs i u h c =
    let size : length (remove xs i) + 1 ≡ length xs = length-remove xs i h in
    let within : c.0 < length (remove xs i) = c.1 in
    ⊎_elim
    (λ (below : c.0 < i). (c.0, omega arith, omega arith, sym (get_or-remove_below xs i u c.0 below h) ∙ c.2))
    (λ (on : i ≤ c.0). (c.0 + 1, omega arith, omega arith, sym (get_or-remove_above xs i u c.0 on h) ∙ c.2))
    (cases_lt c.0 i)

pub remove_from : (xs : List ℕ) (i u : ℕ) → i < length xs → AllPairs (λ x y. x ≢ y) xs → Contains (remove xs i) u → Contains xs u × (u ≢ get_or xs i 0)
remove_from xs i u h once c =
    let p : (n : ℕ) × (n < length xs) × (n ≢ i) × (get_or xs n u ≡ u) = remove_place xs i u h c in
    let within : p.0 < length xs = p.1 in
    let apart : p.0 ≢ i = p.2 in (
      (p.0, p.1, p.3),
      λ e.
          let same : get_or xs p.0 0 ≡ get_or xs i 0 = sym (get_or_default xs p.0 u 0 p.1) ∙ p.3 ∙ e in
          ⊎_elim
          (λ (below : p.0 < i). once p.0 i 0 below h same)
          (λ (on : i ≤ p.0). once i p.0 0 (omega arith) p.1 (sym same))
          (cases_lt p.0 i),
    )

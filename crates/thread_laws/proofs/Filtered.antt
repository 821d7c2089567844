-- Lists without what a test leaves out.
use Rattle.std.proofs.Common.{◌≡◌, ℕ, Bool, true, false, List, [], ◌∷◌, get_or, refl, ap, ◌∙◌, inl, inr, arith, AllPairs, All, Contains}
use Rattle.std.proofs.lemmas.Bool.{cond-true, cond-false}
use Rattle.std.proofs.lemmas.List.Elements.{filter_passes, Contains-get_or, All-contains}
use Rattle.std.proofs.lemmas.List.Kept.{AllPairs-filter}
use Rattle.std.specs.List.{filter}
use Rattle.place_model.proofs.Members.{In, in_from, contains_from, in_filter, filter_in}

pub filter_keeps : (p : ℕ → Bool) (xs : List ℕ) (t : ℕ) → Contains xs t → p t ≡ true → Contains (filter p xs) t
filter_keeps p xs t h e = contains_from (filter p xs) t (in_filter p xs t (in_from xs t h) e)

pub filter_had : (p : ℕ → Bool) (xs : List ℕ) (t : ℕ) → Contains (filter p xs) t → Contains xs t × (p t ≡ true)
filter_had p xs t h =
    let r : In t xs × (p t ≡ true) = filter_in p xs t (in_from (filter p xs) t h) in
    (contains_from xs t r.0, r.1)

-- where each member passes, or none does

whole : (p : ℕ → Bool) (xs : List ℕ) → ((t : ℕ) → In t xs → p t ≡ true) → filter p xs ≡ xs
whole p [] h = refl
whole p (x ∷ xs) h =
    cond-true (p x) (x ∷ filter p xs) (filter p xs) (h x (inl refl))
    ∙ ap (λ (ys : List ℕ). x ∷ ys) (whole p xs (λ t i. h t (inr i)))

pub filter_whole : (p : ℕ → Bool) (xs : List ℕ) → ((t : ℕ) → Contains xs t → p t ≡ true) → filter p xs ≡ xs
filter_whole p xs h = whole p xs (λ t i. h t (contains_from xs t i))

nothing : (p : ℕ → Bool) (xs : List ℕ) → ((t : ℕ) → In t xs → p t ≡ false) → filter p xs ≡ []
nothing p [] h = refl
nothing p (x ∷ xs) h =
    cond-false (p x) (x ∷ filter p xs) (filter p xs) (h x (inl refl))
    ∙ nothing p xs (λ t i. h t (inr i))

pub filter_nothing : (p : ℕ → Bool) (xs : List ℕ) → ((t : ℕ) → Contains xs t → p t ≡ false) → filter p xs ≡ []
filter_nothing p xs h = nothing p xs (λ t i. h t (contains_from xs t i))

-- an order of the members stays, in terms that agree on what passes

pub filter_order : (R S : ℕ → ℕ → Type 0) (p : ℕ → Bool) (xs : List ℕ) → ((x y : ℕ) → p x ≡ true → p y ≡ true → R x y → S x y) → AllPairs R xs → AllPairs S (filter p xs)
filter_order R S p xs f h i j d lt within =
    f (get_or (filter p xs) i d) (get_or (filter p xs) j d) (filter_passes p xs i d (omega arith)) (filter_passes p xs j d within)
    (AllPairs-filter R p xs h i j d lt within)

pub filter_each : (P Q : ℕ → Type 0) (p : ℕ → Bool) (xs : List ℕ) → ((x : ℕ) → p x ≡ true → P x → Q x) → All P xs → All Q (filter p xs)
filter_each P Q p xs f h i d within =
    let at : Contains (filter p xs) (get_or (filter p xs) i d) = Contains-get_or (filter p xs) i d within in
    let had : Contains xs (get_or (filter p xs) i d) × (p (get_or (filter p xs) i d) ≡ true) = filter_had p xs (get_or (filter p xs) i d) at in
    f (get_or (filter p xs) i d) had.1 (All-contains P xs (get_or (filter p xs) i d) h had.0)

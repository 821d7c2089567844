-- Members of lists, and the least and the greatest of numbers that members have.
use Rattle.std.proofs.Common.{◌≡◌, ℕ, zero, suc, ◌<◌, ◌≤◌, ◌⊎◌, Bool, true, false, cond, List, [], ◌∷◌, length, get_or, map, min, max, refl, ap, sym, ◌∙◌, subst, inl, inr, ⊎_elim, arith, Contains}
use Rattle.std.proofs.lemmas.Bool.{cases_lt, cond-true}
use Rattle.std.specs.List.{fold, filter}

abbrev pub In : {X : Type 0} → X → List X → Type 0
In x [] = ⊥
In x (y ∷ ys) = (y ≡ x) ⊎ In x ys

in_at : {X : Type 0} (xs : List X) (x : X) (k : ℕ) → k < length xs → get_or xs k x ≡ x → In x xs
in_at [] x k h e = absurd (omega arith)
in_at (y ∷ ys) x zero h e = inl e
in_at (y ∷ ys) x (suc k) h e = inr (in_at ys x k (omega arith) e)

pub in_from : {X : Type 0} (xs : List X) (x : X) → Contains xs x → In x xs
in_from xs x h = in_at xs x h.0 h.1 h.2

pub contains_from : {X : Type 0} (xs : List X) (x : X) → In x xs → Contains xs x
contains_from [] x h = absurd h
contains_from (y ∷ ys) x (inl e) = (0, omega arith, e)
contains_from (y ∷ ys) x (inr h) = let r : Contains ys x = contains_from ys x h in (suc r.0, omega (arith, r.1), r.2)

-- ---- map and filter

pub in_map : {X Y : Type 0} (f : X → Y) (xs : List X) (x : X) → In x xs → In (f x) (map f xs)
in_map f [] x h = absurd h
in_map f (y ∷ ys) x (inl e) = inl (ap f e)
in_map f (y ∷ ys) x (inr h) = inr (in_map f ys x h)

pub map_in : {X Y : Type 0} (f : X → Y) (xs : List X) (y : Y) → In y (map f xs) → (x : X) × In x xs × (f x ≡ y)
map_in f [] y h = absurd h
map_in f (x ∷ xs) y (inl e) = (x, inl refl, e)
map_in f (x ∷ xs) y (inr h) = let r : (z : _) × In z xs × (f z ≡ y) = map_in f xs y h in (r.0, inr r.1, r.2)

in_more : {X : Type 0} (p : X → Bool) (y : X) (ys : List X) (x : X) (b : Bool) → In x (filter p ys) → In x (cond b (y ∷ filter p ys) (filter p ys))
in_more p y ys x true h = inr h
in_more p y ys x false h = h

pub in_filter : {X : Type 0} (p : X → Bool) (xs : List X) (x : X) → In x xs → p x ≡ true → In x (filter p xs)
in_filter p [] x h t = absurd h
in_filter {X} p (y ∷ ys) x (inl e) t =
    let now : p y ≡ true = ap p e ∙ t in
    subst (λ (l : List X). In x l) (sym (cond-true (p y) (y ∷ filter p ys) (filter p ys) now)) (inl e)
in_filter {X} p (y ∷ ys) x (inr h) t = in_more p y ys x (p y) (in_filter p ys x h t)

in_one : {X : Type 0} (p : X → Bool) (y : X) (ys : List X) (x : X) (b : Bool) → p y ≡ b → In x (cond b (y ∷ filter p ys) (filter p ys)) → ((y ≡ x) × (p x ≡ true)) ⊎ In x (filter p ys)
in_one p y ys x true e (inl q) = inl (q, sym (ap p q) ∙ e)
in_one p y ys x true e (inr h) = inr h
in_one p y ys x false e h = inr h

pub filter_in : {X : Type 0} (p : X → Bool) (xs : List X) (x : X) → In x (filter p xs) → In x xs × (p x ≡ true)
filter_in p [] x h = absurd h
filter_in {X} p (y ∷ ys) x h = ⊎_elim
    (λ (q : (y ≡ x) × (p x ≡ true)). (inl q.0, q.1))
    (λ (q : In x (filter p ys)). let r : In x ys × (p x ≡ true) = filter_in p ys x q in (inr r.0, r.1))
    (in_one p y ys x (p y) refl h)

-- ---- the least

abbrev pub least : {X : Type 0} → (X → ℕ) → ℕ → List X → ℕ
least f e ys = fold (λ a y. min a (f y)) e ys

pub least_below : {X : Type 0} (f : X → ℕ) (e : ℕ) (ys : List X) → least f e ys ≤ e
least_below f e [] = omega arith
least_below f e (y ∷ ys) = let h : least f (min e (f y)) ys ≤ min e (f y) = least_below f (min e (f y)) ys in omega arith

pub least_member : {X : Type 0} (f : X → ℕ) (e : ℕ) (ys : List X) (y : X) → In y ys → least f e ys ≤ f y
least_member f e [] y h = absurd h
least_member f e (x ∷ ys) y (inl q) =
    let h : least f (min e (f x)) ys ≤ min e (f x) = least_below f (min e (f x)) ys in
    let s : f x ≡ f y = ap f q in
    omega arith
least_member f e (x ∷ ys) y (inr i) = least_member f (min e (f x)) ys y i

pub least_is : {X : Type 0} (f : X → ℕ) (e : ℕ) (ys : List X) → (least f e ys ≡ e) ⊎ ((y : X) × In y ys × (least f e ys ≡ f y))
least_is f e [] = inl refl
least_is {X} f e (x ∷ ys) = ⊎_elim
    (λ (q : least f (min e (f x)) ys ≡ min e (f x)). ⊎_elim
    (λ (l : e < f x). inl (omega arith))
    (λ (g : f x ≤ e). inr (x, inl refl, omega arith))
    (cases_lt e (f x)))
    (λ (q : (y : X) × In y ys × (least f (min e (f x)) ys ≡ f y)). inr (q.0, inr q.1, q.2))
    (least_is f (min e (f x)) ys)

-- ---- the greatest

abbrev pub greatest : {X : Type 0} → (X → ℕ) → ℕ → List X → ℕ
greatest f e ys = fold (λ a y. max a (f y)) e ys

pub greatest_above : {X : Type 0} (f : X → ℕ) (e : ℕ) (ys : List X) → e ≤ greatest f e ys
greatest_above f e [] = omega arith
greatest_above f e (y ∷ ys) = let h : max e (f y) ≤ greatest f (max e (f y)) ys = greatest_above f (max e (f y)) ys in omega arith

pub greatest_member : {X : Type 0} (f : X → ℕ) (e : ℕ) (ys : List X) (y : X) → In y ys → f y ≤ greatest f e ys
greatest_member f e [] y h = absurd h
greatest_member f e (x ∷ ys) y (inl q) =
    let h : max e (f x) ≤ greatest f (max e (f x)) ys = greatest_above f (max e (f x)) ys in
    let s : f x ≡ f y = ap f q in
    omega arith
greatest_member f e (x ∷ ys) y (inr i) = greatest_member f (max e (f x)) ys y i

pub greatest_is : {X : Type 0} (f : X → ℕ) (e : ℕ) (ys : List X) → (greatest f e ys ≡ e) ⊎ ((y : X) × In y ys × (greatest f e ys ≡ f y))
greatest_is f e [] = inl refl
greatest_is {X} f e (x ∷ ys) = ⊎_elim
    (λ (q : greatest f (max e (f x)) ys ≡ max e (f x)). ⊎_elim
    (λ (l : e < f x). inr (x, inl refl, omega arith))
    (λ (g : f x ≤ e). inl (omega arith))
    (cases_lt e (f x)))
    (λ (q : (y : X) × In y ys × (greatest f (max e (f x)) ys ≡ f y)). inr (q.0, inr q.1, q.2))
    (greatest_is f (max e (f x)) ys)

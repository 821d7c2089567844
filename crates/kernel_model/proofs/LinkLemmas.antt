-- A doubly linked queue: what a walk reads, and what an insert and a removal change of the links and of the ends.
use Rattle.std.proofs.Common.{◌≡◌, ℕ, ◌<◌, ◌≤◌, zero, suc, Bool, true, false, cond, eqb, ltb, List, [], ◌∷◌, ◌++◌, length, refl, sym, ap, ◌∙◌, subst, arith, ⊎_elim, inl, inr}
use Rattle.std.proofs.lemmas.Bool.{eqb-true, eq-eqb}
use Rattle.kernel_model.specs.Members.{Out, In, Once, Below}
use Rattle.kernel_model.specs.Links.{first, last_after, last, next_of, prev_after, walk}

pub by_bool : {A : Type 0} (b : Bool) → (b ≡ true → A) → (b ≡ false → A) → A
by_bool true f g = f refl
by_bool false f g = g refl

pub if_true : {A : Type 0} (b : Bool) (x y : A) → b ≡ true → cond b x y ≡ x
if_true b x y e = ap (λ v. cond v x y) e

pub if_false : {A : Type 0} (b : Bool) (x y : A) → b ≡ false → cond b x y ≡ y
if_false b x y e = ap (λ v. cond v x y) e

pub both_values : (b : Bool) → b ≡ true → b ≡ false → ⊥
both_values true e f = cc
both_values false e f = cc

-- ---- members

-- each member's link leads to the one behind it
abbrev pub Linked : (next : ℕ → ℕ) → List ℕ → Type 0
Linked next [] = Unit {0}
Linked next (x ∷ xs) = (next x ≡ first xs) × Linked next xs

-- ---- the walk

pub true_below : (x : ℕ) → x < 32 → ltb x 32 ≡ true
true_below x l = grind arith

pub walk_back : (next : ℕ → ℕ) (xs : List ℕ) (n : ℕ) → length xs ≤ n → Below xs → Linked next xs → walk next n (first xs) ≡ xs
walk_back next [] zero l b k = refl
walk_back next [] (suc n) l b k = refl
walk_back next (x ∷ xs) zero l b k = absurd (omega arith)
walk_back next (x ∷ xs) (suc n) l b k =
    let rest : length xs ≤ n = omega arith in
    if_true (ltb x 32) (x ∷ walk next n (next x)) [] (true_below x b.0)
    ∙ ap (λ c. x ∷ walk next n c) k.0 ∙ ap (λ ys. x ∷ ys) (walk_back next xs n rest b.1 k.1)

pub below_true : (t : ℕ) → ltb t 32 ≡ true → t < 32
below_true t e = grind arith

pub walk_same : (next next' : ℕ → ℕ) → ((t : ℕ) → t < 32 → next t ≡ next' t) → (n b : ℕ) → walk next n b ≡ walk next' n b
walk_same next next' h zero b = refl
walk_same next next' h (suc n) zero = refl
walk_same next next' h (suc n) (suc t) = by_bool (ltb t 32)
    (λ e. if_true (ltb t 32) (t ∷ walk next n (next t)) [] e ∙ ap (λ c. t ∷ walk next n c) (h t (below_true t e)) ∙ ap (λ ys. t ∷ ys) (walk_same next next' h n (next' t))
    ∙ sym (if_true (ltb t 32) (t ∷ walk next' n (next' t)) [] e))
    (λ e. if_false (ltb t 32) (t ∷ walk next n (next t)) [] e ∙ sym (if_false (ltb t 32) (t ∷ walk next' n (next' t)) [] e))

differ : (t x y : ℕ) → eqb y t ≡ true → eqb y x ≡ false → eqb x t ≡ false
differ t x y e o = grind arith

pub not_eq : (a b : ℕ) → (a ≡ b → ⊥) → eqb a b ≡ false
not_eq a b h = by_bool (eqb a b) (λ e. absurd (h (eqb-true a b e))) (λ e. e)

pub in_or_out : (t x : ℕ) (xs : List ℕ) → Out x xs → In t xs → eqb x t ≡ false
in_or_out t x [] o i = absurd i
in_or_out t x (y ∷ ys) o i = ⊎_elim (λ e. differ t x y e o.0) (λ j. in_or_out t x ys o.1 j) i

pub linked_from : (next : ℕ → ℕ) (xs : List ℕ) → Once xs → ((t : ℕ) → In t xs → next t ≡ next_of xs t) → Linked next xs
linked_from next [] o h = tt
linked_from next (x ∷ xs) o h = (
  h x (inl (eq-eqb x x refl)) ∙ if_true (eqb x x) (first xs) (next_of xs x) (eq-eqb x x refl),
  linked_from next xs o.1 (λ t i. h t (inr i) ∙ if_false (eqb x t) (first xs) (next_of xs t) (in_or_out t x xs o.0 i)),
)

-- ---- the links of a list with t in it, and of the list without it

pub next_new : (ys zs : List ℕ) (t : ℕ) → Out t ys → next_of (ys ++ t ∷ zs) t ≡ first zs
next_new [] zs t o = if_true (eqb t t) (first zs) (next_of zs t) (eq-eqb t t refl)
next_new (y ∷ ys) zs t o = if_false (eqb y t) (first (ys ++ t ∷ zs)) (next_of (ys ++ t ∷ zs) t) o.0 ∙ next_new ys zs t o.1

pub next_out : (xs : List ℕ) (t : ℕ) → Out t xs → next_of xs t ≡ 0
next_out [] t o = refl
next_out (x ∷ xs) t o = if_false (eqb x t) (first xs) (next_of xs t) o.0 ∙ next_out xs t o.1

-- a member that is neither t nor the one before it keeps its next link
pub next_others : (ys zs : List ℕ) (t x : ℕ) → eqb t x ≡ false → (suc x ≡ last ys → ⊥) → next_of (ys ++ t ∷ zs) x ≡ next_of (ys ++ zs) x
next_others [] zs t x n l = if_false (eqb t x) (first zs) (next_of zs x) n
next_others (y ∷ []) zs t x n l =
    let other : eqb y x ≡ false = not_eq y x (λ e. l (ap suc (sym e))) in
    if_false (eqb y x) (suc t) (next_of (t ∷ zs) x) other ∙ if_false (eqb t x) (first zs) (next_of zs x) n ∙ sym (if_false (eqb y x) (first zs) (next_of zs x) other)
next_others (y ∷ y' ∷ ys) zs t x n l = by_bool (eqb y x)
    (λ e. if_true (eqb y x) (suc y') (next_of (y' ∷ ys ++ t ∷ zs) x) e ∙ sym (if_true (eqb y x) (suc y') (next_of (y' ∷ ys ++ zs) x) e))
    (λ e. if_false (eqb y x) (suc y') (next_of (y' ∷ ys ++ t ∷ zs) x) e ∙ next_others (y' ∷ ys) zs t x n l ∙ sym (if_false (eqb y x) (suc y') (next_of (y' ∷ ys ++ zs) x) e))

pub prev_new : (p : ℕ) (ys zs : List ℕ) (t : ℕ) → Out t ys → prev_after p (ys ++ t ∷ zs) t ≡ last_after p ys
prev_new p [] zs t o = if_true (eqb t t) p (prev_after (suc t) zs t) (eq-eqb t t refl)
prev_new p (y ∷ ys) zs t o = if_false (eqb y t) p (prev_after (suc y) (ys ++ t ∷ zs) t) o.0 ∙ prev_new (suc y) ys zs t o.1

pub prev_out : (p : ℕ) (xs : List ℕ) (t : ℕ) → Out t xs → prev_after p xs t ≡ 0
prev_out p [] t o = refl
prev_out p (x ∷ xs) t o = if_false (eqb x t) p (prev_after (suc x) xs t) o.0 ∙ prev_out (suc x) xs t o.1

pub prev_others : (p : ℕ) (ys zs : List ℕ) (t x : ℕ) → eqb t x ≡ false → (suc x ≡ first zs → ⊥) → prev_after p (ys ++ t ∷ zs) x ≡ prev_after p (ys ++ zs) x
prev_others p [] [] t x n f = if_false (eqb t x) p 0 n
prev_others p [] (z ∷ zs) t x n f =
    let other : eqb z x ≡ false = not_eq z x (λ e. f (ap suc (sym e))) in
    if_false (eqb t x) p (prev_after (suc t) (z ∷ zs) x) n ∙ if_false (eqb z x) (suc t) (prev_after (suc z) zs x) other ∙ sym (if_false (eqb z x) p (prev_after (suc z) zs x) other)
prev_others p (y ∷ ys) zs t x n f = by_bool (eqb y x)
    (λ e. if_true (eqb y x) p (prev_after (suc y) (ys ++ t ∷ zs) x) e ∙ sym (if_true (eqb y x) p (prev_after (suc y) (ys ++ zs) x) e))
    (λ e. if_false (eqb y x) p (prev_after (suc y) (ys ++ t ∷ zs) x) e ∙ prev_others (suc y) ys zs t x n f ∙ sym (if_false (eqb y x) p (prev_after (suc y) (ys ++ zs) x) e))

-- ---- the ends

pub last_new : (p : ℕ) (ys : List ℕ) (t : ℕ) → last_after p (ys ++ t ∷ []) ≡ suc t
last_new p [] t = refl
last_new p (y ∷ ys) t = last_new (suc y) ys t

pub last_others : (p : ℕ) (ys : List ℕ) (t z : ℕ) (zs : List ℕ) → last_after p (ys ++ t ∷ z ∷ zs) ≡ last_after p (ys ++ z ∷ zs)
last_others p [] t z zs = refl
last_others p (y ∷ ys) t z zs = last_others (suc y) ys t z zs

-- ---- links of identities

pub below_append : (xs ys : List ℕ) → Below xs → Below ys → Below (xs ++ ys)
below_append [] ys a b = b
below_append (x ∷ xs) ys a b = (a.0, below_append xs ys a.1 b)

pub first_low : (xs : List ℕ) → Below xs → first xs ≤ 32
first_low [] b = omega arith
first_low (x ∷ xs) b = (let l : suc x ≤ 32 = b.0 in l)

pub last_low : (p : ℕ) (xs : List ℕ) → p ≤ 32 → Below xs → last_after p xs ≤ 32
last_low p [] h b = h
last_low p (x ∷ xs) h b = last_low (suc x) xs (let l : suc x ≤ 32 = b.0 in l) b.1

pub next_low : (xs : List ℕ) (t : ℕ) → Below xs → next_of xs t ≤ 32
next_low [] t b = omega arith
next_low (x ∷ xs) t b = by_bool (eqb x t)
    (λ e. subst (λ c. c ≤ 32) (sym (if_true (eqb x t) (first xs) (next_of xs t) e)) (first_low xs b.1))
    (λ e. subst (λ c. c ≤ 32) (sym (if_false (eqb x t) (first xs) (next_of xs t) e)) (next_low xs t b.1))

pub prev_low : (p : ℕ) (xs : List ℕ) (t : ℕ) → p ≤ 32 → Below xs → prev_after p xs t ≤ 32
prev_low p [] t h b = omega arith
prev_low p (x ∷ xs) t h b = by_bool (eqb x t)
    (λ e. subst (λ c. c ≤ 32) (sym (if_true (eqb x t) p (prev_after (suc x) xs t) e)) h)
    (λ e. subst (λ c. c ≤ 32) (sym (if_false (eqb x t) p (prev_after (suc x) xs t) e)) (prev_low (suc x) xs t (let l : suc x ≤ 32 = b.0 in l) b.1))

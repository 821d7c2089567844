-- An element of a list with a property, where the list grows at its end.
use Rattle.std.proofs.Common.{◌≡◌, ◌↔◌, ℕ, zero, suc, refl, ◌+◌, ◌<◌, List, [], ◌∷◌, ◌++◌, ◌⊎◌, inl, inr, length, take, get_or, sym, subst, ◌∙◌, arith}
use Rattle.std.specs.List.{Any}
use Rattle.std.proofs.lemmas.Bool.{cases_lt}
use Rattle.std.proofs.lemmas.List.{get_or_append_left, get_or_at, length-append, length_push, take_more}
use Rattle.std.proofs.lemmas.List.Quantifiers.{Any-push}

pub any_before : {X : Type 0} (P : X → Type 0) (xs ys : List X) → Any P xs → Any P (xs ++ ys)
any_before P xs ys (k, x, inside, is, h) = (k, x, omega (arith, length-append xs ys), get_or_append_left xs ys x k inside ∙ is, h)

pub any_cases : {X : Type 0} (P : X → Type 0) (xs : List X) (y : X) → Any P (xs ++ y ∷ []) → Any P xs ⊎ P y
any_cases P xs y (k, x, inside, is, h) =
    elim (cases_lt k (length xs)) [
      | inl less ↦ inl (k, x, less, sym (get_or_append_left xs (y ∷ []) x k less) ∙ is, h)
      | inr more ↦
          let e : length xs ≡ k = omega (arith, length_push xs y) in
          inr (subst P (sym is ∙ get_or_at xs y [] x k e) h)
    ]

pub any_push : {X : Type 0} (P : X → Type 0) (xs : List X) (y : X) → (Any P xs ⊎ P y) ↔ Any P (xs ++ y ∷ [])
any_push {X} P xs y = (go, any_cases P xs y)
  where
    go : Any P xs ⊎ P y → Any P (xs ++ y ∷ [])
    go (inl a) = any_before P xs (y ∷ []) a
    go (inr h) = Any-push P xs y h

pub any_more : {X : Type 0} (P : X → Type 0) (xs : List X) (i : ℕ) (d : X) → i < length xs → (Any P (take i xs) ⊎ P (get_or xs i d)) ↔ Any P (take (i + 1) xs)
any_more P xs i d inside = subst (λ l. (Any P (take i xs) ⊎ P (get_or xs i d)) ↔ Any P l) (sym (take_more xs i d inside)) (any_push P (take i xs) (get_or xs i d))

pub any_none : {X : Type 0} (P : X → Type 0) → Any P [] → ⊥
any_none P (k, x, inside, is, h) = omega (arith, inside)

pub any_cons : {X : Type 0} (P : X → Type 0) (x : X) (xs : List X) → Any P (x ∷ xs) → P x ⊎ Any P xs
any_cons P x xs (zero, y, inside, is, h) = inl (subst P (sym is) h)
any_cons P x xs (suc k, y, inside, is, h) = inr (k, y, omega arith, is, h)

pub any_first : {X : Type 0} (P : X → Type 0) (x : X) (xs : List X) → P x → Any P (x ∷ xs)
any_first P x xs h = (0, x, omega arith, refl, h)

pub any_behind : {X : Type 0} (P : X → Type 0) (x : X) (xs : List X) → Any P xs → Any P (x ∷ xs)
any_behind P x xs (k, y, inside, is, h) = (suc k, y, omega arith, is, h)

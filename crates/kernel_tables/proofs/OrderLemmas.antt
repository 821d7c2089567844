-- Lists in order.
use Rattle.std.proofs.Common.{◌≡◌, ◌≢◌, ℕ, ◌+◌, ◌-◌, ◌<◌, ◌≤◌, true, false, IsTrue, zero, suc, List, ◌++◌, length, get_or, refl, ap, sym, ◌∙◌, subst, arith, length-append, AllPairs, Contains}
use Rattle.std.proofs.lemmas.Bool.{false≢true}
use Rattle.std.proofs.lemmas.List.{get_or_append_left, get_or-append-add, get_or_default, ext_get_or}
use Rattle.kernel_model.specs.Bytes.{part}
use Rattle.kernel_model.proofs.BytesLemmas.{length-part}
use Rattle.kernel_model.proofs.OrderlyLemmas.{pairs_apart}
use Rattle.kernel_tables.proofs.Patches.{byte_in}
use Rattle.kernel_tables.specs.Lists.{AreApart}

-- what an answer says
pub no : {P : Type 0} → (P → ⊥) → (IsTrue false → P) × (P → IsTrue false)
no f = (λ e. absurd (false≢true e), λ p. absurd (f p))

pub yes : {P : Type 0} → P → (IsTrue true → P) × (P → IsTrue true)
yes p = (λ e. p, λ q. refl)

-- ---- bytes

pub piece_is : (m bs : List ℕ) (at : ℕ) → at + length bs ≤ length m → ((k : ℕ) → k < length bs → get_or bs k 0 ≡ get_or m (at + k) 0) → part m at (length bs) ≡ bs
piece_is m bs at w f =
    let size : length (part m at (length bs)) ≡ length bs = length-part m at (length bs) w in
    ext_get_or 0 (part m at (length bs)) bs size (λ k l. let in' : k < length bs = omega (arith, size, l) in byte_in m at (length bs) k in' ∙ sym (f k in'))

pub piece_differs : (m bs : List ℕ) (at k b : ℕ) → k < length bs → b ≡ get_or m (at + k) 0 → (b ≡ get_or bs k 0 → ⊥) → part m at (length bs) ≡ bs → ⊥
piece_differs m bs at k b l h ne p = ne (h ∙ sym (byte_in m at (length bs) k l) ∙ ap (λ ys. get_or ys k 0) p)

-- ---- members that stand once

pub apart_members : (xs ys : List ℕ) → AreApart xs ys → (t : ℕ) → Contains xs t → Contains ys t → ⊥
apart_members xs ys h t a b =
    let there : get_or xs a.0 0 ≡ t = get_or_default xs a.0 0 t a.1 ∙ a.2 in
    let here : get_or ys b.0 0 ≡ t = get_or_default ys b.0 0 t b.1 ∙ b.2 in
    h a.0 a.1 b.0 b.1 (here ∙ sym there)

pub apart_from_once : (xs ys : List ℕ) → AllPairs (λ x y. x ≢ y) (xs ++ ys) → AreApart xs ys
apart_from_once xs ys h i l k l' e =
    let both : length (xs ++ ys) ≡ length xs + length ys = length-append xs ys in
    h i (length xs + k) 0 (omega arith) (omega arith) (get_or_append_left xs ys 0 i l ∙ sym e ∙ sym (get_or-append-add xs ys k 0))

pub once_from_parts : (xs ys : List ℕ) → AllPairs (λ x y. x ≢ y) xs → AllPairs (λ x y. x ≢ y) ys → AreApart xs ys → AllPairs (λ x y. x ≢ y) (xs ++ ys)
once_from_parts xs ys h k a = pairs_apart xs ys h k (apart_members xs ys a)

-- ---- from neighbours to all

steps_down : (f : ℕ → ℕ) (xs : List ℕ) → ((k : ℕ) → k + 1 < length xs → f (get_or xs (k + 1) 0) ≤ f (get_or xs k 0)) → (i n : ℕ) → i + n < length xs → f (get_or xs (i + n) 0) ≤ f (get_or xs i 0)
steps_down f xs h i zero l = let same : i + zero ≡ i = omega arith in subst (λ (j : ℕ). f (get_or xs j 0) ≤ f (get_or xs i 0)) (sym same) (omega arith)
steps_down f xs h i (suc n) l =
    let next : i + suc n ≡ i + n + 1 = omega arith in
    let rest : f (get_or xs (i + n) 0) ≤ f (get_or xs i 0) = steps_down f xs h i n (omega arith) in
    let last : f (get_or xs (i + n + 1) 0) ≤ f (get_or xs (i + n) 0) = h (i + n) (omega arith) in
    subst (λ (j : ℕ). f (get_or xs j 0) ≤ f (get_or xs i 0)) (sym next) (omega arith)

pub chain_down : (f : ℕ → ℕ) (xs : List ℕ) → ((k : ℕ) → k + 1 < length xs → f (get_or xs (k + 1) 0) ≤ f (get_or xs k 0)) → AllPairs (λ x y. f y ≤ f x) xs
chain_down f xs h i j d lt l =
    let gap : j ≡ i + (j - i) = omega arith in
    let all : f (get_or xs (i + (j - i)) 0) ≤ f (get_or xs i 0) = steps_down f xs h i (j - i) (omega arith) in
    let first : get_or xs i d ≡ get_or xs i 0 = get_or_default xs i d 0 (omega arith) in
    let last : get_or xs j d ≡ get_or xs (i + (j - i)) 0 = get_or_default xs j d 0 l ∙ ap (λ k. get_or xs k 0) gap in
    let first_f : f (get_or xs i d) ≡ f (get_or xs i 0) = ap f first in
    let last_f : f (get_or xs j d) ≡ f (get_or xs (i + (j - i)) 0) = ap f last in
    omega arith

steps_up : (f : ℕ → ℕ) (xs : List ℕ) → ((k : ℕ) → k + 1 < length xs → f (get_or xs k 0) ≤ f (get_or xs (k + 1) 0)) → (i n : ℕ) → i + n < length xs → f (get_or xs i 0) ≤ f (get_or xs (i + n) 0)
steps_up f xs h i zero l = let same : i + zero ≡ i = omega arith in subst (λ (j : ℕ). f (get_or xs i 0) ≤ f (get_or xs j 0)) (sym same) (omega arith)
steps_up f xs h i (suc n) l =
    let next : i + suc n ≡ i + n + 1 = omega arith in
    let rest : f (get_or xs i 0) ≤ f (get_or xs (i + n) 0) = steps_up f xs h i n (omega arith) in
    let last : f (get_or xs (i + n) 0) ≤ f (get_or xs (i + n + 1) 0) = h (i + n) (omega arith) in
    subst (λ (j : ℕ). f (get_or xs i 0) ≤ f (get_or xs j 0)) (sym next) (omega arith)

pub chain_up : (f : ℕ → ℕ) (xs : List ℕ) → ((k : ℕ) → k + 1 < length xs → f (get_or xs k 0) ≤ f (get_or xs (k + 1) 0)) → AllPairs (λ x y. f x ≤ f y) xs
chain_up f xs h i j d lt l =
    let gap : j ≡ i + (j - i) = omega arith in
    let all : f (get_or xs i 0) ≤ f (get_or xs (i + (j - i)) 0) = steps_up f xs h i (j - i) (omega arith) in
    let first : get_or xs i d ≡ get_or xs i 0 = get_or_default xs i d 0 (omega arith) in
    let last : get_or xs j d ≡ get_or xs (i + (j - i)) 0 = get_or_default xs j d 0 l ∙ ap (λ k. get_or xs k 0) gap in
    let first_f : f (get_or xs i d) ≡ f (get_or xs i 0) = ap f first in
    let last_f : f (get_or xs j d) ≡ f (get_or xs (i + (j - i)) 0) = ap f last in
    omega arith

-- A list that the threads of an application leave one by one: the first members without them, and then the rest.
use Rattle.std.proofs.Common.{◌≡◌, ◌≢◌, ℕ, ◌+◌, ◌-◌, ◌<◌, ◌≤◌, Bool, true, false, not, eqb, cond, List, [], ◌∷◌, ◌++◌, length, take, drop, get_or, remove, refl, sym, ap, ◌∙◌, subst, arith, All, Contains, append_assoc, length-append, add-one, drop-cons}
use Rattle.std.specs.List.{position_or_len}
use Rattle.std.proofs.Math.Seq.{get_or-append_seam}
use Rattle.std.proofs.lemmas.Bool.{eq-eqb, ne_eqb, false≢true}
use Rattle.std.proofs.lemmas.List.{append-nil, get_or_append_left, take_all, drop_all}
use Rattle.std.proofs.lemmas.List.Elements.{Contains-get_or, filter_more, filter_passes}
use Rattle.std.proofs.lemmas.List.Edits.{remove-append_right}
use Rattle.std.proofs.lemmas.List.Sums.{position_or_len_is}
use Rattle.kernel_model.specs.Queues.{without}
use Rattle.kernel_model.specs.Ending.{is_of, others}

unfoldable pub part_left : (a : ℕ) (xs : List ℕ) (i : ℕ) → List ℕ
part_left a xs i = others a (take i xs) ++ drop i xs

-- the rest begins with the next member
pub rest_is : (xs : List ℕ) (i : ℕ) → i < length xs → drop i xs ≡ get_or xs i 0 ∷ drop (i + 1) xs
rest_is xs i h = drop-cons xs i 0 h ∙ ap (λ n. get_or xs i 0 ∷ drop n xs) (sym (add-one i))

pub part_left_none : (a : ℕ) (xs : List ℕ) → part_left a xs 0 ≡ xs
unfolding part_left
part_left_none a xs = refl

pub part_left_all : (a : ℕ) (xs : List ℕ) (i : ℕ) → length xs ≤ i → part_left a xs i ≡ others a xs
unfolding part_left
part_left_all a xs i h =
    ap (λ ys. others a ys ++ drop i xs) (take_all i xs h) ∙ ap (λ ys. others a xs ++ ys) (drop_all i xs h) ∙ append-nil (others a xs)

-- the next member stands behind the others
pub next_stands : (a : ℕ) (xs : List ℕ) (i : ℕ) → i < length xs → Contains (part_left a xs i) (get_or xs i 0)
unfolding part_left
next_stands a xs i h =
    let front : List ℕ = others a (take i xs) in
    let x : ℕ = get_or xs i 0 in
    let back : List ℕ = drop (i + 1) xs in
    let there : Contains (front ++ (x ∷ back)) x =
    subst (λ (y : ℕ). Contains (front ++ (x ∷ back)) y) (get_or-append_seam front x back 0)
    (Contains-get_or (front ++ (x ∷ back)) (length front) 0 (let n = length-append front (x ∷ back) in omega arith)) in
    subst (λ (ys : List ℕ). Contains (front ++ ys) x) (sym (rest_is xs i h)) there

-- the place of the first thread of the application, behind others
place_behind : (a x : ℕ) (front back : List ℕ) → All (λ y. not (is_of a y) ≡ true) front → is_of a x ≡ true → position_or_len (λ y. eqb y x) (front ++ (x ∷ back)) ≡ length front
place_behind a x front back h is =
    let all : length (front ++ (x ∷ back)) ≡ length front + length (x ∷ back) = length-append front (x ∷ back) in
    position_or_len_is (λ y. eqb y x) (front ++ (x ∷ back)) (length front) 0 (omega arith)
    (λ k l.
    let apart : get_or front k 0 ≢ x = λ e. false≢true (sym (ap not is) ∙ ap (λ y. not (is_of a y)) (sym e) ∙ h k 0 l) in
    ne_eqb (get_or (front ++ (x ∷ back)) k 0) x (λ e. apart (sym (get_or_append_left front (x ∷ back) 0 k l) ∙ e)))
    (λ l. eq-eqb (get_or (front ++ (x ∷ back)) (length front) 0) x (get_or-append_seam front x back 0))

-- a thread of the application is taken out of what is left
pub taken_more : (a : ℕ) (xs : List ℕ) (i : ℕ) → i < length xs → is_of a (get_or xs i 0) ≡ true → without (part_left a xs i) (get_or xs i 0) ≡ part_left a xs (i + 1)
unfolding part_left
taken_more a xs i h is =
    let x : ℕ = get_or xs i 0 in
    let front : List ℕ = others a (take i xs) in
    let back : List ℕ = drop (i + 1) xs in
    let place : position_or_len (λ y. eqb y x) (front ++ (x ∷ back)) ≡ length front =
    place_behind a x front back (filter_passes (λ y. not (is_of a y)) (take i xs)) is in
    let same : others a (take (i + 1) xs) ≡ front =
    filter_more (λ y. not (is_of a y)) xs i 0 h ∙ ap (λ (b : Bool). front ++ cond (not b) (x ∷ []) []) is ∙ append-nil front in
    ap (λ ys. without (front ++ ys) x) (rest_is xs i h)
    ∙ ap (λ n. remove (front ++ (x ∷ back)) n) place
    ∙ remove-append_right front (x ∷ back) (length front) (length front) refl (omega arith)
    ∙ ap (λ n. front ++ remove (x ∷ back) n) (let none : length front - length front ≡ 0 = omega arith in none)
    ∙ ap (λ ys. ys ++ back) (sym same)

-- another thread stays
pub kept_more : (a : ℕ) (xs : List ℕ) (i : ℕ) → i < length xs → is_of a (get_or xs i 0) ≡ false → part_left a xs i ≡ part_left a xs (i + 1)
unfolding part_left
kept_more a xs i h is =
    let x : ℕ = get_or xs i 0 in
    let front : List ℕ = others a (take i xs) in
    let back : List ℕ = drop (i + 1) xs in
    let more : others a (take (i + 1) xs) ≡ front ++ (x ∷ []) =
    filter_more (λ y. not (is_of a y)) xs i 0 h ∙ ap (λ (b : Bool). front ++ cond (not b) (x ∷ []) []) is in
    ap (λ ys. front ++ ys) (rest_is xs i h) ∙ sym (append_assoc front (x ∷ []) back) ∙ ap (λ ys. ys ++ back) (sym more)

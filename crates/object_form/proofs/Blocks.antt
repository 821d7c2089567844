-- Lists by place, and texts made of blocks of one size.
use Rattle.std.proofs.Common.{◌≡◌, ℕ, zero, suc, ◌+◌, ◌*◌, ◌<◌, ◌≤◌, List, [], ◌∷◌, ◌++◌, length, get_or, take, drop, refl, sym, ap, ◌∙◌, append_assoc, arith, add-one, inl, inr, length-append, drop-cons}
use Rattle.std.proofs.Math.Seq.{take-add, take-suc}
use Rattle.std.proofs.lemmas.Bool.{cases_lt}
use Rattle.std.proofs.lemmas.List.{append-nil, drop-drop, get_or_append_left, get_or-append-add}
use Rattle.std.proofs.lemmas.List.Concat.{flat_map-cons}
use Rattle.std.proofs.lemmas.Grind.{flat_map-append}
use Rattle.std.specs.List.{flat_map}
use Rattle.object_form.specs.Reading.{listed}

pub length-listed : {A : Type 0} (n : ℕ) (f : ℕ → A) → length (listed n f) ≡ n
unfolding listed
length-listed zero f = refl
length-listed (suc n) f = length-append (listed n f) (f n ∷ []) ∙ ap (λ m. m + 1) (length-listed n f) ∙ add-one n

pub get_or-listed : {A : Type 0} (n : ℕ) (f : ℕ → A) (k : ℕ) (d : A) → k < n → get_or (listed n f) k d ≡ f k
unfolding listed
get_or-listed zero f k d lt = absurd (omega arith)
get_or-listed (suc n) f k d lt =
    elim (cases_lt k n) [
      | inl below ↦ get_or_append_left (listed n f) (f n ∷ []) d k (omega (arith, length-listed n f)) ∙ get_or-listed n f k d below
      | inr past ↦
          let here : k ≡ n = omega arith in
          let placed : k ≡ length (listed n f) + 0 = omega (arith, length-listed n f) in
          ap (λ m. get_or (listed n f ++ f n ∷ []) m d) placed ∙ get_or-append-add (listed n f) (f n ∷ []) 0 d ∙ ap f (sym here)
    ]

pub listed-take : {A : Type 0} (n : ℕ) (f : ℕ → A) (xs : List A) (d : A) → n ≤ length xs → ((k : ℕ) → k < n → f k ≡ get_or xs k d) → listed n f ≡ take n xs
unfolding listed
listed-take zero f xs d le each = refl
listed-take (suc n) f xs d le each =
    let before : listed n f ≡ take n xs = listed-take n f xs d (omega arith) (λ k lt. each k (omega arith)) in
    let lt : n < length xs = omega arith in
    ap (λ l. l ++ f n ∷ []) before ∙ ap (λ x. take n xs ++ x ∷ []) (each n (omega arith)) ∙ sym (take-suc xs n d lt)

-- blocks that stand one behind the other in a text are that part of it
pub blocks-stand : {X : Type 0} (f : X → List ℕ) (h : ℕ → X) (size start : ℕ) (t : List ℕ) (n : ℕ) → ((k : ℕ) → k < n → f (h k) ≡ take size (drop (start + size * k) t)) → flat_map f (listed n h) ≡ take (size * n) (drop start t)
unfolding listed
blocks-stand f h size start t zero each =
    let none : size * 0 ≡ 0 = omega arith in
    rw none refl
blocks-stand f h size start t (suc n) each =
    let before = blocks-stand f h size start t n (λ k lt. each k (omega arith)) in
    let more : size * suc n ≡ size * n + size = omega arith in
    let last : flat_map f (h n ∷ []) ≡ take size (drop (size * n) (drop start t)) = flat_map-cons f (h n) [] ∙ append-nil (f (h n)) ∙ each n (omega arith) ∙ ap (take size) (sym (drop-drop (size * n) start t)) in
    flat_map-append f (listed n h) (h n ∷ []) ∙ ap (λ l. l ++ flat_map f (h n ∷ [])) before ∙ ap (λ l. take (size * n) (drop start t) ++ l) last ∙ sym (take-add (size * n) size (drop start t)) ∙ ap (λ m. take m (drop start t)) (sym more)

-- byte j of block k
pub block-byte : {X : Type 0} (f : X → List ℕ) (size : ℕ) → ((x : X) → length (f x) ≡ size) → (xs : List X) (rest : List ℕ) (k j : ℕ) (d : X) → k < length xs → j < size → get_or (flat_map f xs ++ rest) (size * k + j) 0 ≡ get_or (f (get_or xs k d)) j 0
block-byte f size wide [] rest k j d lt small = absurd (omega arith)
block-byte f size wide (x ∷ xs) rest zero j d lt small =
    let here : size * 0 + j ≡ j = omega arith in
    rw (here, flat_map-cons f x xs, append_assoc (f x) (flat_map f xs) rest) (get_or_append_left (f x) (flat_map f xs ++ rest) 0 j (omega (arith, wide x)))
block-byte f size wide (x ∷ xs) rest (suc k) j d lt small =
    let there : size * suc k + j ≡ length (f x) + (size * k + j) = omega (arith, wide x) in
    rw (there, flat_map-cons f x xs, append_assoc (f x) (flat_map f xs) rest, get_or-append-add (f x) (flat_map f xs ++ rest) (size * k + j) 0) (block-byte f size wide xs rest k j d (omega arith) small)

pub length-blocks : {X : Type 0} (f : X → List ℕ) (size : ℕ) → ((x : X) → length (f x) ≡ size) → (xs : List X) → length (flat_map f xs) ≡ size * length xs
length-blocks f size wide [] = omega arith
length-blocks f size wide (x ∷ xs) =
    let before = length-blocks f size wide xs in
    rw flat_map-cons (omega (arith, length-append (f x) (flat_map f xs), wide x))

drop-next : (t : List ℕ) (p : ℕ) → p < length t → drop p t ≡ get_or t p 0 ∷ drop (p + 1) t
drop-next t p lt = drop-cons t p 0 lt ∙ ap (λ m. get_or t p 0 ∷ drop m t) (sym (add-one p))

-- two bytes and four bytes of a text from a place on
pub two-from : (t : List ℕ) (p : ℕ) → p + 2 ≤ length t → take 2 (drop p t) ≡ get_or t p 0 ∷ get_or t (p + 1) 0 ∷ []
two-from t p le = ap (take 2) (drop-next t p (omega arith)) ∙ ap (λ l. get_or t p 0 ∷ take 1 l) (drop-next t (p + 1) (omega arith))

pub four-from : (t : List ℕ) (p : ℕ) → p + 4 ≤ length t → take 4 (drop p t) ≡ get_or t p 0 ∷ get_or t (p + 1) 0 ∷ get_or t (p + 2) 0 ∷ get_or t (p + 2 + 1) 0 ∷ []
four-from t p le =
    let later : p + 1 + 1 ≡ p + 2 = omega arith in
    ap (take 4) (drop-next t p (omega arith)) ∙ ap (λ l. get_or t p 0 ∷ take 3 l) (drop-next t (p + 1) (omega arith))
    ∙ ap (λ m. get_or t p 0 ∷ get_or t (p + 1) 0 ∷ take 2 (drop m t)) later ∙ ap (λ l. get_or t p 0 ∷ get_or t (p + 1) 0 ∷ l) (two-from t (p + 2) (omega arith))

-- The threads of an application, by their numbers: the first that passes a test, and whether all do.
use Rattle.std.proofs.Common.{◌≡◌, ◌≢◌, ℕ, zero, suc, ◌+◌, ◌<◌, ◌≤◌, Bool, true, false, cond, ◌&&◌, List, [], ◌∷◌, map, refl, ap, ◌∙◌, arith, Option, Some, None, ⊎_elim}
use Rattle.std.specs.List.{filter, list_all, range_with_len, slice_get}
use Rattle.std.proofs.lemmas.Bool.{cases_eq}

filter_none_from : (p : ℕ → Bool) (f : ℕ → ℕ) (a count : ℕ) → ((k : ℕ) → a ≤ k → k < a + count → p (f k) ≡ false) → filter p (map f (range_with_len a count)) ≡ []
filter_none_from p f a zero h = refl
filter_none_from p f a (suc n) h =
    let rest : filter p (map f (range_with_len (a + 1) n)) ≡ [] = filter_none_from p f (a + 1) n (λ k l u. h k (omega arith) (omega arith)) in
    ap (λ (b : Bool). cond b (f a ∷ filter p (map f (range_with_len (a + 1) n))) (filter p (map f (range_with_len (a + 1) n)))) (h a (omega arith) (omega arith)) ∙ rest

filter_first_from : (p : ℕ → Bool) (f : ℕ → ℕ) (a count n : ℕ) → a ≤ n → n < a + count → ((k : ℕ) → a ≤ k → k < n → p (f k) ≡ false) → p (f n) ≡ true
    → slice_get (filter p (map f (range_with_len a count))) 0 ≡ Some (f n)
filter_first_from p f a zero n l u h t = absurd (omega arith)
filter_first_from p f a (suc count) n l u h t =
    let rest : List ℕ = filter p (map f (range_with_len (a + 1) count)) in
    ⊎_elim
    (λ (same : a ≡ n).
    ap (λ (b : Bool). slice_get (cond b (f a ∷ rest) rest) 0) (ap (λ k. p (f k)) same ∙ t) ∙ ap (λ k. let o : Option ℕ = Some (f k) in o) same)
    (λ (other : a ≢ n).
    ap (λ (b : Bool). slice_get (cond b (f a ∷ rest) rest) 0) (h a (omega arith) (omega arith))
    ∙ filter_first_from p f (a + 1) count n (omega arith) (omega arith) (λ k m v. h k (omega arith) v) t)
    (cases_eq a n)

pub filter_none : (p : ℕ → Bool) (f : ℕ → ℕ) (count : ℕ) → ((k : ℕ) → k < count → p (f k) ≡ false) → slice_get (filter p (map f (range_with_len 0 count))) 0 ≡ None
filter_none p f count h = ap (λ (xs : List ℕ). slice_get xs 0) (filter_none_from p f 0 count (λ k l u. h k (omega arith)))

pub filter_first : (p : ℕ → Bool) (f : ℕ → ℕ) (count n : ℕ) → n < count → ((k : ℕ) → k < n → p (f k) ≡ false) → p (f n) ≡ true
    → slice_get (filter p (map f (range_with_len 0 count))) 0 ≡ Some (f n)
filter_first p f count n l h t = filter_first_from p f 0 count n (omega arith) (omega arith) (λ k a u. h k u) t

-- ---- all pass

all_pass_from : (p : ℕ → Bool) (f : ℕ → ℕ) (a count : ℕ) → ((k : ℕ) → a ≤ k → k < a + count → p (f k) ≡ true) → list_all p (map f (range_with_len a count)) ≡ true
all_pass_from p f a zero h = refl
all_pass_from p f a (suc n) h =
    ap (λ (b : Bool). b && list_all p (map f (range_with_len (a + 1) n))) (h a (omega arith) (omega arith))
    ∙ all_pass_from p f (a + 1) n (λ k l u. h k (omega arith) (omega arith))

one_fails_from : (p : ℕ → Bool) (f : ℕ → ℕ) (a count n : ℕ) → a ≤ n → n < a + count → p (f n) ≡ false → list_all p (map f (range_with_len a count)) ≡ false
one_fails_from p f a zero n l u h = absurd (omega arith)
one_fails_from p f a (suc count) n l u h =
    ⊎_elim
    (λ (same : a ≡ n). ap (λ (b : Bool). b && list_all p (map f (range_with_len (a + 1) count))) (ap (λ k. p (f k)) same ∙ h))
    (λ (other : a ≢ n).
    ap (λ (b : Bool). p (f a) && b) (one_fails_from p f (a + 1) count n (omega arith) (omega arith) h) ∙ both (p (f a)))
    (cases_eq a n)
  where
    both : (b : Bool) → (b && false) ≡ false
    both true = refl
    both false = refl

pub all_pass : (p : ℕ → Bool) (f : ℕ → ℕ) (count : ℕ) → ((k : ℕ) → k < count → p (f k) ≡ true) → list_all p (map f (range_with_len 0 count)) ≡ true
all_pass p f count h = all_pass_from p f 0 count (λ k l u. h k (omega arith))

pub one_fails : (p : ℕ → Bool) (f : ℕ → ℕ) (count n : ℕ) → n < count → p (f n) ≡ false → list_all p (map f (range_with_len 0 count)) ≡ false
one_fails p f count n l h = one_fails_from p f 0 count n (omega arith) (omega arith) h

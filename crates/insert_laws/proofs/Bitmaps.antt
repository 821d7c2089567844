-- A bitmap of numbers of which each is known to be in it or not.
use Rattle.std.proofs.Common.{◌≡◌, ◌↔◌, ℕ, zero, suc, ◌+◌, ◌*◌, ◌/◌, ◌%◌, ◌<◌, ◌≤◌, ◌⊎◌, inl, inr, List, map, get_or, refl, sym, ap, ◌∙◌, arith}
use Rattle.std.specs.Int.{bit_at}
use Rattle.std.specs.List.{range_with_len}
use Rattle.std.proofs.lemmas.Bool.{cases_lt}
use Rattle.std.proofs.lemmas.List.{get_or_past}
use Rattle.std.proofs.lemmas.List.FromFn.{get_or-map-range_with_len, length-map-range_with_len}
use Rattle.std.proofs.lemmas.Nat.Bits.{bit_at_lowest, bit_at-suc, bit_at-zero}
use Rattle.kernel_model.specs.Bitmap.{Has}

-- ---- numbers by their bits

-- the number of so many bits, the lowest first
number_of : (ℕ → ℕ) → ℕ → ℕ
number_of f zero = 0
number_of f (suc n) = f 0 + 2 * number_of (λ k. f (suc k)) n

lowest : (b x : ℕ) → b ≤ 1 → (b + 2 * x) % 2 ≡ b
lowest b x h = omega arith

half : (b x : ℕ) → b ≤ 1 → (b + 2 * x) / 2 ≡ x
half b x h = omega arith

bit_is : (f : ℕ → ℕ) (n i : ℕ) → ((k : ℕ) → f k ≤ 1) → i < n → bit_at (number_of f n) i ≡ f i
unfolding number_of
bit_is f zero i small h = absurd (omega arith)
bit_is f (suc n) zero small h = bit_at_lowest (f 0 + 2 * number_of (λ k. f (suc k)) n) ∙ lowest (f 0) (number_of (λ k. f (suc k)) n) (small 0)
bit_is f (suc n) (suc i) small h =
    let rest : ℕ = number_of (λ k. f (suc k)) n in
    bit_at-suc (f 0 + 2 * rest) i ∙ ap (λ (x : ℕ). bit_at x i) (half (f 0) rest (small 0)) ∙ bit_is (λ k. f (suc k)) n i (λ k. small (suc k)) (omega arith)

-- ---- bitmaps

byte_of : (ℕ → ℕ) → ℕ → ℕ
byte_of f j = number_of (λ i. f (8 * j + i)) 8

abbrev bitmap : (ℕ → ℕ) → (bytes : ℕ) → List ℕ
bitmap f bytes = map (byte_of f) (range_with_len 0 bytes)

bit_within : (f : ℕ → ℕ) (bytes k : ℕ) → ((i : ℕ) → f i ≤ 1) → k < 8 * bytes → bit_at (get_or (bitmap f bytes) (k / 8) 0) (k % 8) ≡ f k
unfolding byte_of
bit_within f bytes k small h =
    let whole : 8 * (k / 8) + k % 8 ≡ k = omega arith in
    ap (λ (x : ℕ). bit_at x (k % 8)) (get_or-map-range_with_len (byte_of f) 0 bytes (k / 8) (k / 8) 0 (omega arith) (omega arith))
    ∙ bit_is (λ i. f (8 * (k / 8) + i)) 8 (k % 8) (λ i. small (8 * (k / 8) + i)) (omega arith) ∙ ap f whole

bit_past : (f : ℕ → ℕ) (bytes k : ℕ) → 8 * bytes ≤ k → bit_at (get_or (bitmap f bytes) (k / 8) 0) (k % 8) ≡ 0
bit_past f bytes k h =
    ap (λ (x : ℕ). bit_at x (k % 8)) (get_or_past (bitmap f bytes) (k / 8) 0 (omega (arith, length-map-range_with_len (byte_of f) 0 bytes))) ∙ bit_at-zero (k % 8)

-- ---- those that are known

abbrev flag : {P : Type 0} → P ⊎ (P → ⊥) → ℕ
flag (inl p) = 1
flag (inr n) = 0

flag_small : {P : Type 0} (s : P ⊎ (P → ⊥)) → flag s ≤ 1
flag_small (inl p) = omega arith
flag_small (inr n) = omega arith

flag_says : {P : Type 0} (s : P ⊎ (P → ⊥)) → flag s ≡ 1 → P
flag_says (inl p) e = p
flag_says (inr n) e = absurd (omega arith)

flag_said : {P : Type 0} (s : P ⊎ (P → ⊥)) → P → flag s ≡ 1
flag_said (inl p) h = refl
flag_said (inr n) h = absurd (n h)

pub record Marking (P : ℕ → Type 0) : Type 0 where
  pub marks : List ℕ
  pub are : (k : ℕ) → Has marks k ↔ P k

module _ (P : ℕ → Type 0) (known : (k : ℕ) → P k ⊎ (P k → ⊥)) (bytes : ℕ) (below : (k : ℕ) → P k → k < 8 * bytes) where
  abbrev bits : ℕ → ℕ
  bits k = flag (known k)

  pub marking : Marking P
  marking = record {
    marks = bitmap bits bytes;
    are = λ k. (
      λ h. elim (cases_lt k (8 * bytes)) [
        | inl within ↦ flag_says (known k) (sym (bit_within bits bytes k (λ i. flag_small (known i)) within) ∙ h)
        | inr past ↦ let none = bit_past bits bytes k past in absurd (omega (arith, none, h))
      ],
      λ p. bit_within bits bytes k (λ i. flag_small (known i)) (below k p) ∙ flag_said (known k) p,
    );
  }

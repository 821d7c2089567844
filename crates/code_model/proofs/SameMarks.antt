-- Bitmaps that mark the same words.
use Rattle.std.proofs.Common.{◌≡◌, ◌↔◌, ℕ, zero, suc, ◌+◌, ◌*◌, ◌/◌, ◌%◌, ◌<◌, List, get_or, refl, sym, subst, ◌∙◌, arith}
use Rattle.std.proofs.lemmas.Nat.Bits.{bit_at-lt, same_from_bits_below}
use Rattle.std.proofs.lemmas.List.FromFn.{fill_by_all}
use Rattle.std.specs.Int.{bit_at}
use Rattle.kernel_model.specs.Bitmap.{Has}
use Rattle.code_model.specs.Marks.{AreMarks}

same_bit : (m n : ℕ) → m < 2 → n < 2 → (m ≡ 1) ↔ (n ≡ 1) → m ≡ n
same_bit zero zero a b s = refl
same_bit zero (suc zero) a b s = absurd (omega (arith, s.1 refl))
same_bit (suc zero) zero a b s = absurd (omega (arith, s.0 refl))
same_bit (suc zero) (suc zero) a b s = refl
same_bit (suc (suc m)) n a b s = absurd (omega (arith, a))
same_bit zero (suc (suc n)) a b s = absurd (omega (arith, b))
same_bit (suc zero) (suc (suc n)) a b s = absurd (omega (arith, b))

module _ (a b : List ℕ) (same : (at : ℕ) → Has a at ↔ Has b at) where
  SameBit : (j i : ℕ) → Type 0
  SameBit j i = bit_at (get_or a j 0) i ≡ bit_at (get_or b j 0) i

  bit_of : (k : ℕ) → SameBit (k / 8) (k % 8)
  unfolding SameBit
  bit_of k = same_bit _ _ (bit_at-lt (get_or a (k / 8) 0) (k % 8)) (bit_at-lt (get_or b (k / 8) 0) (k % 8)) (same k)

  bit_in : (j i : ℕ) → i < 8 → SameBit j i
  bit_in j i h =
      let byte : (8 * j + i) / 8 ≡ j = omega (arith, h) in
      let bit : (8 * j + i) % 8 ≡ i = omega (arith, h) in
      let P : ℕ → Type 0 = λ p. SameBit p ((8 * j + i) % 8) in
      let Q : ℕ → Type 0 = λ q. SameBit j q in
      subst Q bit (subst P byte (bit_of (8 * j + i)))

  same_byte : (j : ℕ) → get_or a j 0 < 256 → get_or b j 0 < 256 → get_or a j 0 ≡ get_or b j 0
  unfolding SameBit
  same_byte j small other = same_from_bits_below 8 (get_or a j 0) (get_or b j 0) small other (λ i h. bit_in j i h)

  same_bytes : AreMarks a → AreMarks b → a ≡ b
  same_bytes m n =
      let f : ℕ → ℕ = λ k. get_or b k 0 in
      fill_by_all f a 1024 0 m.size (λ k h. same_byte k (m.small k) (n.small k)) ∙ sym (fill_by_all f b 1024 0 n.size (λ k h. refl))

pub same_marks : (a b : List ℕ) → AreMarks a → AreMarks b → ((at : ℕ) → Has a at ↔ Has b at) → a ≡ b
same_marks a b m n same = same_bytes a b same m n

-- Counting marks.
use Rattle.std.proofs.Common.{◌≡◌, ℕ, suc, ◌+◌, ◌*◌, ◌/◌, ◌%◌, ◌<◌, List, slice_index_or, ap, subst, sym, arith}
use Rattle.std.specs.Int.{bit_at}
use Rattle.std.proofs.lemmas.Nat.Bits.{bit_at-lt}
use Rattle.kernel_model.specs.Bitmap.{Has}
use Rattle.retos_cli.specs.Lines.{marked_below}

abbrev bit-of : List ℕ → ℕ → ℕ
bit-of units k = bit_at (slice_index_or units (k / 8) 0) (k % 8)

one-more : (units : List ℕ) (k : ℕ) → marked_below units (k + 1) ≡ marked_below units k + bit-of units k
one-more units k = let e : k + 1 ≡ suc k = omega arith in ap (λ n. marked_below units n) e

half : (k : ℕ) → 2 * k / 2 ≡ k
half k = omega arith

here : (units : List ℕ) (k : ℕ) → Has units (2 * k / 2) → bit-of units k ≡ 1
here units k h = let P : ℕ → Type 0 = λ j. Has units j in subst P (half k) h

not-here : (units : List ℕ) (k : ℕ) → (Has units (2 * k / 2) → ⊥) → bit-of units k ≡ 1 → ⊥
not-here units k h b = let P : ℕ → Type 0 = λ j. Has units j in h (subst P (sym (half k)) b)

zero-bit : (b : ℕ) → b < 2 → (b ≡ 1 → ⊥) → b ≡ 0
zero-bit b l h = omega (arith, l, h)

pub marked_more : (units : List ℕ) (k n : ℕ) → n ≡ marked_below units k → Has units (2 * k / 2) → n + 1 ≡ marked_below units (k + 1)
marked_more units k n e h = omega (arith, e, one-more units k, here units k h)

pub unmarked_more : (units : List ℕ) (k n : ℕ) → n ≡ marked_below units k → (Has units (2 * k / 2) → ⊥) → n ≡ marked_below units (k + 1)
unmarked_more units k n e h = omega (arith, e, one-more units k, zero-bit (bit-of units k) (bit_at-lt (slice_index_or units (k / 8) 0) (k % 8)) (not-here units k h))

-- Bitmaps of zeros.
use Rattle.std.proofs.Common.{◌≡◌, ℕ, zero, suc, List, ◌/◌, ◌%◌, replicate, slice_index_or, refl}
use Rattle.std.proofs.lemmas.Nat.Bits.{bit_at-zero}
use Rattle.std.specs.Int.{bit_at}
use Rattle.kernel_model.specs.Bitmap.{Has}

zeros : ℕ → List ℕ
zeros n = replicate n 0

zero_at : (n i : ℕ) → slice_index_or (zeros n) i 0 ≡ zero
unfolding zeros
zero_at zero i = refl
zero_at (suc n) zero = refl
zero_at (suc n) (suc i) = zero_at n i

pub none_has : (n k : ℕ) → Has (replicate n 0) k → ⊥
unfolding zeros
none_has n k h = let e : slice_index_or (zeros n) (k / 8) 0 ≡ zero = zero_at n (k / 8) in
    let z : bit_at zero (k % 8) ≡ zero = bit_at-zero (k % 8) in
    cc

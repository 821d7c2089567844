-- Words as bytes.
use Rattle.std.proofs.Common.{◌≡◌, ℕ, zero, suc, ◌+◌, ◌*◌, ◌/◌, ◌%◌, List, [], ◌∷◌, length, get_or, refl, ap, ◌∙◌, arith}
use Rattle.std.specs.List.{flat_map}
use Rattle.flat_mem.specs.Bytes.{word_bytes}

pub bytes-length : (ws : List ℕ) → length (flat_map word_bytes ws) ≡ 2 * length ws
bytes-length [] = refl
bytes-length (w ∷ ws) = omega (arith, bytes-length ws)

pub low : (ws : List ℕ) (i : ℕ) → get_or (flat_map word_bytes ws) (2 * i) 0 ≡ get_or ws i 0 % 256
low [] i = refl
low (w ∷ ws) zero = refl
low (w ∷ ws) (suc i) =
    let e : 2 * suc i ≡ suc (suc (2 * i)) = omega arith in
    ap (λ (k : ℕ). get_or (flat_map word_bytes (w ∷ ws)) k 0) e ∙ low ws i

pub high : (ws : List ℕ) (i : ℕ) → get_or (flat_map word_bytes ws) (2 * i + 1) 0 ≡ get_or ws i 0 / 256
high [] i = refl
high (w ∷ ws) zero = refl
high (w ∷ ws) (suc i) =
    let e : 2 * suc i + 1 ≡ suc (suc (2 * i + 1)) = omega arith in
    ap (λ (k : ℕ). get_or (flat_map word_bytes (w ∷ ws)) k 0) e ∙ high ws i

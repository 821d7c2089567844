-- The bits of a status that are no flags.
use Rattle.std.proofs.Common.{◌≡◌, ℕ, ◌+◌, ◌*◌, ◌/◌, ◌%◌, ◌<◌, bit_and, arith, ap, ◌∙◌}
use Rattle.std.proofs.lemmas.Nat.{and_block, and_mask}
use Rattle.std.proofs.lemmas.Nat.Bits.{and_high}

pub kept_bits : (n : ℕ) → n < 65536 → bit_and n 65272 ≡ n / 512 * 512 + n / 8 % 32 * 8
kept_bits n h =
    let q : ℕ = n / 512 in
    let r : ℕ = n % 512 in
    let whole : n ≡ q * 512 + r = omega arith in
    let split : bit_and (q * 512 + r) 65272 ≡ bit_and q 127 * 512 + bit_and r 248 = and_block 9 q 127 r 248 (omega arith) (omega arith) in
    let high : bit_and q 127 ≡ q % 128 = and_mask q 7 in
    let low : bit_and r 248 ≡ r / 8 % 32 * 8 = and_high r 5 3 in
    let joined = ap (λ k. bit_and k 65272) whole ∙ split in
    omega (arith, joined, high, low)

-- The status register with new flags.
use Rattle.std.proofs.Common.{◌≡◌, ℕ, ◌<◌, ◌≤◌, Bool, true, false, arith}
use Rattle.std.proofs.lemmas.Bool.Decides.{nat_tests}
use Rattle.machine_model.specs.Status.{with_flags, bit, carry, is_zero}

pub bit_small : (b : Bool) → bit b ≤ 1
bit_small true = omega arith
bit_small false = omega arith

pub with_flags-small : (sr : ℕ) (c z n v : Bool) → sr < 65536 → with_flags sr c z n v < 65536
unfolding with_flags
with_flags-small sr c z n v h = omega (arith, h, bit_small c, bit_small z, bit_small n, bit_small v)

-- C and Z are those that were put in
pub carry-with_flags : (sr : ℕ) (c z n v : Bool) → carry (with_flags sr c z n v) ≡ c
unfolding with_flags
carry-with_flags sr true z n v = grind (arith, nat_tests, bit_small z, bit_small n, bit_small v)
carry-with_flags sr false z n v = grind (arith, nat_tests, bit_small z, bit_small n, bit_small v)

pub is_zero-with_flags : (sr : ℕ) (c z n v : Bool) → is_zero (with_flags sr c z n v) ≡ z
unfolding with_flags
is_zero-with_flags sr c true n v = grind (arith, nat_tests, bit_small c, bit_small n, bit_small v)
is_zero-with_flags sr c false n v = grind (arith, nat_tests, bit_small c, bit_small n, bit_small v)

-- The status register with new flags.
use Rattle.std.proofs.Common.{◌≡◌, ◌≢◌, ℕ, ◌+◌, ◌-◌, ◌%◌, ◌<◌, ◌≤◌, Bool, true, false, eqb, leb, arith}
use Rattle.std.proofs.lemmas.Bool.Decides.{nat_tests}
use Rattle.machine_model.specs.Status.{with_flags}
use Rattle.machine_model.proofs.Flags.{bit_small}
use Rattle.machine_laws.specs.Steady.{IsStatus}

pub status-with_flags : (kb sr : ℕ) (c z n v : Bool) → IsStatus kb sr → IsStatus kb (with_flags sr c z n v)
unfolding with_flags
status-with_flags kb sr c z n v h = record {
  high = omega (arith, h.high, bit_small c, bit_small z, bit_small n, bit_small v);
  control = omega (arith, h.control, bit_small c, bit_small z, bit_small n, bit_small v);
}

-- ---- what a comparison tells: d + (not s) + 1

pub at_least : (d s : ℕ) → s < 65536 → leb 65536 (d + (65535 - s) + 1) ≡ true → s ≤ d
at_least d s h e = grind (arith, nat_tests)

pub below : (d s : ℕ) → s < 65536 → leb 65536 (d + (65535 - s) + 1) ≡ false → d < s
below d s h e = grind (arith, nat_tests)

pub apart : (d s : ℕ) → d < 65536 → s < 65536 → eqb ((d + (65535 - s) + 1) % 65536) 0 ≡ false → d ≢ s
apart d s h k e = λ (q : d ≡ s). grind (arith, nat_tests)

-- SR after flags were set or cleared by BIS and BIC.
use Rattle.std.proofs.Common.{◌≡◌, ℕ, ◌-◌, ◌/◌, ◌%◌, ◌<◌, sym, ap, ◌∙◌, arith}
use Rattle.std.specs.Prelude.{bit_and, bit_or}
use Rattle.std.proofs.lemmas.Nat.{and_shr, or_shr, and_mod, or_mod, and_mask, and_le_l, and_le_r, or_disjoint}
use Rattle.machine_laws.specs.Steady.{IsStatus}
use Rattle.machine_laws.specs.Plain.{IsMask}

pub status-mod : (kb sr : ℕ) → IsStatus kb sr → sr < 65536 → IsStatus kb (sr % 65536)
status-mod kb sr h k = record { high = omega (arith, h.high); control = omega (arith, h.high, h.control) }

or-zero : (a : ℕ) → bit_or a 0 ≡ a
or-zero a = or_disjoint a 0 (omega (arith, and_le_r a 0)) ∙ omega arith

pub status-set : (kb d v : ℕ) → IsStatus kb d → IsMask v → IsStatus kb (bit_or d v)
status-set kb d v h k = record {
  high = or_shr d v 9 ∙ (ap (λ (x : ℕ). bit_or x (v / 512)) h.high ∙ (ap (λ (x : ℕ). bit_or 0 x) k.0 ∙ or-zero 0));
  control = ap (λ (x : ℕ). x % 32) (or_shr d v 3) ∙ (or_mod (d / 8) (v / 8) 5 ∙ (ap (λ (x : ℕ). bit_or (d / 8 % 32) x) k.1 ∙ (or-zero (d / 8 % 32) ∙ h.control)));
}

kept-bits : (v : ℕ) → v < 65536 → IsMask v → (65535 - v) / 8 % 32 ≡ 31
kept-bits v h k = omega (arith, k.0, k.1)

pub status-clear : (kb d v : ℕ) → IsStatus kb d → v < 65536 → IsMask v → IsStatus kb (bit_and d (65535 - v))
status-clear kb d v h w k = record {
  high = omega (arith, and_le_l d (65535 - v), h.high);
  control = ap (λ (x : ℕ). x % 32) (and_shr d (65535 - v) 3) ∙ (and_mod (d / 8) ((65535 - v) / 8) 5
      ∙ (ap (λ (x : ℕ). bit_and (d / 8 % 32) x) (kept-bits v w k) ∙ (and_mask (d / 8 % 32) 5 ∙ omega (arith, h.control))));
}

-- no bit outside 0107
pub mask-by_and : (x : ℕ) → x < 65536 → bit_and x 65272 ≡ 0 → IsMask x
mask-by_and x h e = (
  omega (arith, h, sym (and_shr x 65272 9) ∙ ap (λ (y : ℕ). y / 512) e, and_mask (x / 512) 7),
  omega (arith, and_mask (x / 8 % 32) 5, sym (and_mod (x / 8) (65272 / 8) 5) ∙ ap (λ (y : ℕ). y % 32) (sym (and_shr x 65272 3) ∙ ap (λ (y : ℕ). y / 8) e)),
)

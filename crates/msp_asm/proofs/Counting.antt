-- Whether so many bytes have room, where 32,768 units stand for all greater numbers.
use Rattle.std.proofs.Common.{◌≡◌, ℕ, ◌+◌, ◌*◌, ◌≤◌, ◌<◌, inl, inr, min, false, nat_le, refl, ap, arith}
use Rattle.std.proofs.lemmas.Bool.{cases_lt}
use Rattle.std.proofs.lemmas.Bool.Decides.{nat_tests}
use Rattle.asm_model.specs.declared.piece.DataUnit.{DataUnit}
use Rattle.asm_model.specs.declared.piece.DataUnit.TheVariants as unit
use Rattle.asm_model.specs.declared.progress.Progress.{Progress}
use Rattle.asm_model.specs.Drafts.{grown}
use Rattle.asm_model.specs.Directives.{unit_size}
use Rattle.code_model.specs.declared.object.TheConstants.{STATIC_BYTES_MAX}

too_much : (a z m : ℕ) → STATIC_BYTES_MAX < m → nat_le ((a + m) + (z + 0)) STATIC_BYTES_MAX ≡ false
too_much a z m h = grind (arith, nat_tests)

-- two growths that pass the limit
both_large : (p : Progress) (m n : ℕ) → STATIC_BYTES_MAX < m → STATIC_BYTES_MAX < n → grown p 0 m 0 ≡ grown p 0 n 0
unfolding grown
both_large p m n h k = rw (too_much p.initialised p.zeroed m h) (rw (too_much p.initialised p.zeroed n k) refl)

large : (u : DataUnit) (n : ℕ) → 32768 ≤ n → STATIC_BYTES_MAX < unit_size u * n
large unit.Word n h = omega arith
large unit.Byte n h = omega arith

pub grown_capped : (p : Progress) (u : DataUnit) (n : ℕ) → grown p 0 (unit_size u * min n 32768) 0 ≡ grown p 0 (unit_size u * n) 0
grown_capped p u n =
    let few : n < 32768 → grown p 0 (unit_size u * min n 32768) 0 ≡ grown p 0 (unit_size u * n) 0 = λ h.
    let same : min n 32768 ≡ n = omega (arith, h) in
    ap (λ m. grown p 0 (unit_size u * m) 0) same in
    let many : 32768 ≤ n → grown p 0 (unit_size u * min n 32768) 0 ≡ grown p 0 (unit_size u * n) 0 = λ h.
    let most : 32768 ≤ min n 32768 = omega (arith, h) in
    both_large p (unit_size u * min n 32768) (unit_size u * n) (large u (min n 32768) most) (large u n h) in
    elim (cases_lt n 32768) [ inl h ↦ few h | inr h ↦ many h ]

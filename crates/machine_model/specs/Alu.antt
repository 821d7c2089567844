-- Results and flags.
use Rattle.std.specs.Prelude.{ℕ, ◌+◌, ◌-◌, ◌*◌, ◌/◌, ◌%◌, Bool, false, bit_and, bit_or, bit_xor, nat_lt, nat_le, ◌==◌, ◌&&◌, not, if◌then◌else◌}
use Rattle.machine_model.specs.Status.{with_flags}
use Rattle.machine_model.specs.Operands.{size, sign_bit}
use Rattle.msp_encode.specs.declared.instr.Width.{Width}
use Rattle.msp_encode.specs.declared.instr.Width.TheVariants.{Wide, Byte}
use Rattle.msp_encode.specs.declared.instr.Op2.{Op2}
use Rattle.msp_encode.specs.declared.instr.Op2.TheVariants.{Mov, Add, Addc, Subc, Sub, Cmp, Dadd, Bit, Bic, Bis, Xor, And}
use Rattle.msp_encode.specs.declared.instr.Op1.{Op1}
use Rattle.msp_encode.specs.declared.instr.Op1.TheVariants.{Rrc, Swpb, Rra, Sxt, Push, Call}
use Rattle.machine_model.specs.declared.place.Outcome.{Outcome}

abbrev pub complement : Width → ℕ → ℕ
complement w v = size w - 1 - v

-- whether the highest bit is 1
abbrev pub has_sign_bit : Width → ℕ → Bool
has_sign_bit w v = nat_le (sign_bit w) v

-- an outcome that leaves the flags
abbrev pub plain : ℕ → ℕ → Outcome
plain v sr = record { value = v; status = sr }

-- an outcome v with Z and N of v
abbrev pub flagged : Width → ℕ → Bool → Bool → ℕ → Outcome
flagged w v c o sr = record { value = v; status = with_flags sr c (v == 0) (has_sign_bit w v) o }

-- V of a sum: the operands have equal highest bits, and the result another
abbrev pub overflows : Width → ℕ → ℕ → ℕ → Bool
overflows w s d v = (if has_sign_bit w s then has_sign_bit w d else not (has_sign_bit w d)) && (if has_sign_bit w v then not (has_sign_bit w d) else has_sign_bit w d)

unfoldable pub added : Width → ℕ → ℕ → ℕ → ℕ → Outcome
added w s d c sr =
    let t = d + s + c in
    let v = t % size w in
    flagged w v (nat_le (size w) t) (overflows w s d v) sr

-- C is not Z
unfoldable pub logical : Width → ℕ → Bool → ℕ → Outcome
logical w v o sr = flagged w v (not (v == 0)) o sr

-- one digit of a decimal sum, and its carry
abbrev pub digit : ℕ → ℕ
digit t = if nat_lt t 10 then t else (t + 6) % 16

abbrev pub digit_carry : ℕ → ℕ
digit_carry t = if nat_lt t 10 then 0 else 1

-- two digits and their carry
unfoldable pub decimal_byte : ℕ → ℕ → ℕ → ℕ × ℕ
decimal_byte a b c =
    let t = a % 16 + b % 16 + c in
    let u = a / 16 % 16 + b / 16 % 16 + digit_carry t in
    (digit t + 16 * digit u, digit_carry u)

unfoldable pub decimal : Width → ℕ → ℕ → ℕ → ℕ × ℕ
decimal Byte a b c = decimal_byte a b c
decimal Wide a b c =
    let l = decimal_byte a b c in
    let h = decimal_byte (a / 256) (b / 256) l.1 in
    (l.0 + 256 * h.0, h.1)

unfoldable pub alu : Op2 → Width → ℕ → ℕ → ℕ → Outcome
alu Mov w s d sr = plain s sr
alu Add w s d sr = added w s d 0 sr
alu Addc w s d sr = added w s d (sr % 2) sr
alu Sub w s d sr = added w (complement w s) d 1 sr
alu Cmp w s d sr = added w (complement w s) d 1 sr
alu Subc w s d sr = added w (complement w s) d (sr % 2) sr
alu Dadd w s d sr =
    let t = decimal w s d (sr % 2) in
    flagged w t.0 (t.1 == 1) (sr / 256 % 2 == 1) sr
alu And w s d sr = logical w (bit_and d s) false sr
alu Bit w s d sr = logical w (bit_and d s) false sr
alu Bic w s d sr = plain (bit_and d (complement w s)) sr
alu Bis w s d sr = plain (bit_or d s) sr
alu Xor w s d sr = logical w (bit_xor d s) (has_sign_bit w s && has_sign_bit w d) sr

unfoldable pub alu_one : Op1 → Width → ℕ → ℕ → Outcome
alu_one Rrc w v sr = flagged w (v / 2 + sr % 2 * sign_bit w) (v % 2 == 1) false sr
alu_one Rra w v sr = flagged w (v / 2 + (if has_sign_bit w v then sign_bit w else 0)) (v % 2 == 1) false sr
alu_one Swpb w v sr = plain (v % 256 * 256 + v / 256) sr
alu_one Sxt w v sr = let e = v % 256 + (if nat_le 128 (v % 256) then 65280 else 0) in logical Wide e false sr
alu_one Push w v sr = plain v sr
alu_one Call w v sr = plain v sr

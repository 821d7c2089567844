-- Values and flags stay within their sizes.
use Rattle.std.proofs.Common.{ℕ, ◌+◌, ◌-◌, ◌*◌, ◌/◌, ◌%◌, ◌<◌, Bool, true, false, leb, List, arith}
use Rattle.std.specs.Prelude.{bit_or, bit_xor, if◌then◌else◌}
use Rattle.std.proofs.lemmas.Nat.{or_lt, xor_lt, and_le_l}
use Rattle.std.proofs.lemmas.Bool.Decides.{nat_tests}
use Rattle.machine_model.specs.Memory.{word_at, IsMemory}
use Rattle.machine_model.specs.Operands.{size, sign_bit, low, load, source_value, value_in}
use Rattle.machine_model.specs.Alu.{alu, alu_one, added, logical, digit, digit_carry, decimal_byte, decimal, has_sign_bit}
use Rattle.machine_model.specs.declared.place.Place.{Place}
use Rattle.machine_model.specs.declared.place.Place.TheVariants.{InReg, At}
use Rattle.msp_encode.specs.declared.instr.Width.{Width}
use Rattle.msp_encode.specs.declared.instr.Width.TheVariants.{Wide, Byte}
use Rattle.msp_encode.specs.declared.instr.Op2.{Op2}
use Rattle.msp_encode.specs.declared.instr.Op2.TheVariants.{Mov, Add, Addc, Subc, Sub, Cmp, Dadd, Bit, Bic, Bis, Xor, And}
use Rattle.msp_encode.specs.declared.instr.Op1.{Op1}
use Rattle.msp_encode.specs.declared.instr.Op1.TheVariants.{Rrc, Swpb, Rra, Sxt, Push, Call}
use Rattle.msp_encode.specs.declared.instr.Src.{Src}
use Rattle.msp_encode.specs.declared.instr.Src.TheVariants as src
use Rattle.machine_model.proofs.Flags.{with_flags-small}

pub word-small : (m : List ℕ) (a : ℕ) → IsMemory m → word_at m a < 65536
unfolding word_at
word-small m a h = omega (arith, h.small (a / 2 * 2), h.small (a / 2 * 2 + 1))

load-small : (w : Width) (m : List ℕ) (a : ℕ) → IsMemory m → load w m a < size w
load-small Wide m a h = word-small m a h
load-small Byte m a h = h.small a

pub low-small : (w : Width) (v : ℕ) → low w v < size w
low-small Wide v = omega arith
low-small Byte v = omega arith

pub size-word : (w : Width) (v : ℕ) → v < size w → v < 65536
size-word Wide v h = h
size-word Byte v h = omega arith

pub source-small : (w : Width) (s : Src) (at : ℕ) (m r : List ℕ) → IsMemory m → source_value w s at m r < size w
unfolding source_value
source-small w (src.Reg n) at m r h = low-small w _
source-small w (src.Indexed n x) at m r h = load-small w m _ h
source-small w (src.Symbolic x) at m r h = load-small w m _ h
source-small w (src.Absolute x) at m r h = load-small w m _ h
source-small w (src.Indirect n) at m r h = load-small w m _ h
source-small w (src.AutoInc n) at m r h = load-small w m _ h
source-small w (src.Immediate x) at m r h = low-small w _
source-small w (src.Const k) at m r h = low-small w _

pub value-small : (w : Width) (p : Place) (m r : List ℕ) → IsMemory m → value_in w p m r < size w
unfolding value_in
value-small w (InReg n) m r h = low-small w _
value-small w (At a) m r h = load-small w m a h

-- ---- operations

digit-small : (t : ℕ) → digit t < 16
digit-small t = grind (arith, nat_tests)

byte-small : (a b c : ℕ) → (decimal_byte a b c).0 < 256
unfolding decimal_byte
byte-small a b c = omega (arith, digit-small (a % 16 + b % 16 + c), digit-small (a / 16 % 16 + b / 16 % 16 + digit_carry (a % 16 + b % 16 + c)))

decimal-small : (w : Width) (a b c : ℕ) → (decimal w a b c).0 < size w
unfolding decimal
decimal-small Byte a b c = byte-small a b c
decimal-small Wide a b c =
    let l = byte-small a b c in
    let h = byte-small (a / 256) (b / 256) (decimal_byte a b c).1 in
    omega arith

or-small : (w : Width) (a b : ℕ) → a < size w → b < size w → bit_or a b < size w
or-small Wide a b h k = or_lt 16 a b h k
or-small Byte a b h k = or_lt 8 a b h k

xor-small : (w : Width) (a b : ℕ) → a < size w → b < size w → bit_xor a b < size w
xor-small Wide a b h k = xor_lt 16 a b h k
xor-small Byte a b h k = xor_lt 8 a b h k

mod-small : (w : Width) (t : ℕ) → t % size w < size w
mod-small Wide t = omega arith
mod-small Byte t = omega arith

pub alu-small : (op : Op2) (w : Width) (s d sr : ℕ) → s < size w → d < size w → (alu op w s d sr).value < size w
unfolding alu added logical
alu-small Mov w s d sr h k = h
alu-small Add w s d sr h k = mod-small w _
alu-small Addc w s d sr h k = mod-small w _
alu-small Sub w s d sr h k = mod-small w _
alu-small Cmp w s d sr h k = mod-small w _
alu-small Subc w s d sr h k = mod-small w _
alu-small Dadd w s d sr h k = decimal-small w s d (sr % 2)
alu-small And w s d sr h k = omega (arith, and_le_l d s)
alu-small Bit w s d sr h k = omega (arith, and_le_l d s)
alu-small Bic w s d sr h k = omega (arith, and_le_l d (size w - 1 - s))
alu-small Bis w s d sr h k = or-small w d s k h
alu-small Xor w s d sr h k = xor-small w d s k h

half-sign : (w : Width) (v : ℕ) (b : Bool) → v < size w → v / 2 + (if b then sign_bit w else 0) < size w
half-sign Wide v true h = omega arith
half-sign Wide v false h = omega arith
half-sign Byte v true h = omega arith
half-sign Byte v false h = omega arith

pub one-small : (op : Op1) (w : Width) (v sr : ℕ) → v < size w → (alu_one op w v sr).value < 65536
unfolding alu_one logical
one-small Rrc Wide v sr h = omega arith
one-small Rrc Byte v sr h = omega arith
one-small Rra w v sr h = size-word w _ (half-sign w v (has_sign_bit w v) h)
one-small Swpb w v sr h = omega (arith, size-word w v h)
one-small Sxt w v sr h = sign-small v (leb 128 (v % 256))
  where
    sign-small : (v : ℕ) (b : Bool) → v % 256 + (if b then 65280 else 0) < 65536
    sign-small v true = omega arith
    sign-small v false = omega arith
one-small Push w v sr h = size-word w v h
one-small Call w v sr h = size-word w v h

-- a result of an operation on a register's value fits a register
pub result-small : (op : Op2) (w : Width) (s d sr : ℕ) → s < size w → (alu op w s (low w d) sr).value < 65536
result-small op w s d sr h = size-word w _ (alu-small op w s (low w d) sr h (low-small w d))

-- ---- flags

pub status-small : (op : Op2) (w : Width) (s d sr : ℕ) → sr < 65536 → (alu op w s d sr).status < 65536
unfolding alu added logical
status-small Mov w s d sr k = k
status-small Bic w s d sr k = k
status-small Bis w s d sr k = k
status-small Add w s d sr k = with_flags-small sr _ _ _ _ k
status-small Addc w s d sr k = with_flags-small sr _ _ _ _ k
status-small Sub w s d sr k = with_flags-small sr _ _ _ _ k
status-small Cmp w s d sr k = with_flags-small sr _ _ _ _ k
status-small Subc w s d sr k = with_flags-small sr _ _ _ _ k
status-small Dadd w s d sr k = with_flags-small sr _ _ _ _ k
status-small And w s d sr k = with_flags-small sr _ _ _ _ k
status-small Bit w s d sr k = with_flags-small sr _ _ _ _ k
status-small Xor w s d sr k = with_flags-small sr _ _ _ _ k

pub one-status-small : (op : Op1) (w : Width) (v sr : ℕ) → sr < 65536 → (alu_one op w v sr).status < 65536
unfolding alu_one logical
one-status-small Rrc w v sr k = with_flags-small sr _ _ _ _ k
one-status-small Rra w v sr k = with_flags-small sr _ _ _ _ k
one-status-small Swpb w v sr k = k
one-status-small Sxt w v sr k = with_flags-small sr _ _ _ _ k
one-status-small Push w v sr k = k
one-status-small Call w v sr k = k

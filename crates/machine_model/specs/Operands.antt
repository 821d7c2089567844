-- Where operands lie, and what they are.
use Rattle.std.specs.Prelude.{ℕ, ◌+◌, ◌/◌, ◌%◌, ◌<◌, ◌^◌, List, [], ◌∷◌, slice_index, ◌==◌, if◌then◌else◌}
use Rattle.machine_model.specs.Memory.{even, word_at}
use Rattle.machine_model.specs.Context.{reg, set_reg}
use Rattle.msp_encode.specs.declared.instr.Width.{Width}
use Rattle.msp_encode.specs.declared.instr.Width.TheVariants.{Wide, Byte}
use Rattle.msp_encode.specs.declared.instr.Src.{Src}
use Rattle.msp_encode.specs.declared.instr.Src.TheVariants as src
use Rattle.msp_encode.specs.declared.instr.Dst.{Dst}
use Rattle.msp_encode.specs.declared.instr.Dst.TheVariants as dst
use Rattle.msp_encode.specs.Forms.{const_value}
use Rattle.machine_model.specs.declared.place.Place.{Place}
use Rattle.machine_model.specs.declared.place.Place.TheVariants.{InReg, At}

-- how many values a width has, and the value of its highest bit
abbrev pub size : Width → ℕ
size Wide = 65536
size Byte = 256

abbrev pub sign_bit : Width → ℕ
sign_bit Wide = 32768
sign_bit Byte = 128

-- a byte operation uses low bytes
abbrev pub low : Width → ℕ → ℕ
low w v = v % size w

abbrev pub load : Width → List ℕ → ℕ → ℕ
load Wide m a = word_at m a
load Byte m a = slice_index m a

-- the pairs that a write makes
abbrev pub stored : Width → ℕ → ℕ → List (ℕ × ℕ)
stored Wide a v = (even a, v % 256) ∷ (even a + 1, v / 256) ∷ []
stored Byte a v = (a, v % 256) ∷ []

abbrev pub sum_of : ℕ → ℕ → ℕ
sum_of a b = (a + b) % 65536

-- A source, where its word, or the word after the instruction word, lies at `at`.
unfoldable pub source_value : Width → Src → ℕ → List ℕ → List ℕ → ℕ
source_value w (src.Reg n) at m r = low w (if n == 0 then at else reg r n)
source_value w (src.Indexed n x) at m r = load w m (sum_of x (reg r n))
source_value w (src.Symbolic x) at m r = load w m (sum_of x at)
source_value w (src.Absolute x) at m r = load w m x
source_value w (src.Indirect n) at m r = load w m (reg r n)
source_value w (src.AutoInc n) at m r = load w m (reg r n)
source_value w (src.Immediate x) at m r = low w x
source_value w (src.Const k) at m r = low w (const_value k)

-- what autoincrement adds
abbrev pub step : Width → ℕ → ℕ
step Wide n = 2
step Byte n = if n == 1 then 2 else 1

-- the context after a source was read
unfoldable pub after_source : Width → Src → List ℕ → List ℕ
after_source w (src.AutoInc n) r = set_reg r n (sum_of (reg r n) (step w n))
after_source w (src.Reg n) r = r
after_source w (src.Indexed n x) r = r
after_source w (src.Symbolic x) r = r
after_source w (src.Absolute x) r = r
after_source w (src.Indirect n) r = r
after_source w (src.Immediate x) r = r
after_source w (src.Const k) r = r

-- a destination's place, where its word lies at `at`
unfoldable pub place_to : Dst → ℕ → List ℕ → Place
place_to (dst.Reg n) at r = InReg n
place_to (dst.Indexed n x) at r = At (sum_of x (reg r n))
place_to (dst.Symbolic x) at r = At (sum_of x at)
place_to (dst.Absolute x) at r = At x

unfoldable pub value_in : Width → Place → List ℕ → List ℕ → ℕ
value_in w (InReg n) m r = low w (reg r n)
value_in w (At a) m r = load w m a

-- the place of an operand that is both source and destination
unfoldable pub place_of : Src → ℕ → List ℕ → Place
place_of (src.Reg n) at r = InReg n
place_of (src.Indexed n x) at r = At (sum_of x (reg r n))
place_of (src.Symbolic x) at r = At (sum_of x at)
place_of (src.Absolute x) at r = At x
place_of (src.Indirect n) at r = At (reg r n)
place_of (src.AutoInc n) at r = At (reg r n)
place_of (src.Immediate x) at r = InReg 3
place_of (src.Const k) at r = InReg 3

-- the context and the pairs after a value was put into a place
unfoldable pub put_context : Place → ℕ → List ℕ → List ℕ
put_context (InReg n) v r = set_reg r n v
put_context (At a) v r = r

unfoldable pub put_pairs : Width → Place → ℕ → List (ℕ × ℕ)
put_pairs w (InReg n) v = []
put_pairs w (At a) v = stored w a v

-- the registers that operands name
abbrev pub NamesRegisters : Src → Type 0
NamesRegisters (src.Reg n) = n < 16
NamesRegisters (src.Indexed n x) = n < 16
NamesRegisters (src.Symbolic x) = Unit {0}
NamesRegisters (src.Absolute x) = Unit {0}
NamesRegisters (src.Indirect n) = n < 16
NamesRegisters (src.AutoInc n) = n < 16
NamesRegisters (src.Immediate x) = Unit {0}
NamesRegisters (src.Const k) = Unit {0}

abbrev pub NamesRegister : Dst → Type 0
NamesRegister (dst.Reg n) = n < 16
NamesRegister (dst.Indexed n x) = n < 16
NamesRegister (dst.Symbolic x) = Unit {0}
NamesRegister (dst.Absolute x) = Unit {0}

abbrev pub IsPlace : Place → Type 0
IsPlace (InReg n) = n < 16
IsPlace (At a) = a < 2 ^ 16

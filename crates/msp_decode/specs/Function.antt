-- The instruction that words begin with, by the fields of the first.
use Rattle.std.specs.Prelude.{ℕ, ◌+◌, ◌-◌, ◌/◌, ◌%◌, ◌<◌, ◌≤◌, ◌&&◌, nat_lt, nat_le, ◌==◌, if◌then◌else◌, List, [], ◌∷◌, length, take, ℤ, pos, negsuc, Option, None, Some, MatchOption}
use Rattle.msp_encode.specs.declared.instr.Op2.{Op2}
use Rattle.msp_encode.specs.declared.instr.Op2.TheVariants.{Mov, Add, Addc, Subc, Sub, Cmp, Dadd, Bit, Bic, Bis, Xor, And}
use Rattle.msp_encode.specs.declared.instr.Op1.{Op1}
use Rattle.msp_encode.specs.declared.instr.Op1.TheVariants.{Rrc, Swpb, Rra, Sxt, Push, Call}
use Rattle.msp_encode.specs.declared.instr.Cond.{Cond}
use Rattle.msp_encode.specs.declared.instr.Cond.TheVariants.{Ne, Eq, Nc, C, N, Ge, L, Always}
use Rattle.msp_encode.specs.declared.instr.Width.{Width}
use Rattle.msp_encode.specs.declared.instr.Width.TheVariants.{Wide, Byte}
use Rattle.msp_encode.specs.declared.instr.Cg.TheVariants.{Zero, One, Two, Four, Eight, AllOnes}
use Rattle.msp_encode.specs.declared.instr.Src.{Src}
use Rattle.msp_encode.specs.declared.instr.Src.TheVariants as src
use Rattle.msp_encode.specs.declared.instr.Dst.{Dst}
use Rattle.msp_encode.specs.declared.instr.Dst.TheVariants as dst
use Rattle.msp_encode.specs.declared.instr.Instr.{Instr}
use Rattle.msp_encode.specs.declared.instr.Instr.TheVariants as instr
use Rattle.msp_encode.specs.Spelling.{Spells, src_words, words_after}
use Rattle.msp_encode.specs.Legality.{takes_width, takes}
use Rattle.msp_decode.specs.Reading.{NoneBegins}

-- the item at a place
abbrev pub chosen : {X : Type 0} → List X → ℕ → Option X
chosen [] n = None
chosen (x ∷ xs) n = if n == 0 then Some x else chosen xs (n - 1)

abbrev pub op2s : List Op2
op2s = Mov ∷ Add ∷ Addc ∷ Subc ∷ Sub ∷ Cmp ∷ Dadd ∷ Bit ∷ Bic ∷ Bis ∷ Xor ∷ And ∷ []

abbrev pub op1s : List Op1
op1s = Rrc ∷ Swpb ∷ Rra ∷ Sxt ∷ Push ∷ Call ∷ []

abbrev pub conds : List Cond
conds = Ne ∷ Eq ∷ Nc ∷ C ∷ N ∷ Ge ∷ L ∷ Always ∷ []

abbrev pub source_rows : (register word : ℕ) → (mode : ℕ) → Option Src
source_rows r x m =
    if m == 0 then Some (if r == 3 then src.Const Zero else src.Reg r)
    else (if m == 1 then Some (if r == 0 then src.Symbolic x else (if r == 2 then src.Absolute x else (if r == 3 then src.Const One else src.Indexed r x)))
    else (if m == 2 then (if r == 0 then None else Some (if r == 2 then src.Const Four else (if r == 3 then src.Const Two else src.Indirect r)))
    else Some (if r == 0 then src.Immediate x else (if r == 2 then src.Const Eight else (if r == 3 then src.Const AllOnes else src.AutoInc r)))))

abbrev pub dst_rows : (register word : ℕ) → (mode : ℕ) → Option Dst
dst_rows r x m =
    if m == 0 then Some (dst.Reg r)
    else (if r == 0 then Some (dst.Symbolic x) else (if r == 2 then Some (dst.Absolute x) else (if r == 3 then None else Some (dst.Indexed r x))))

abbrev pub width_of : ℕ → Width
width_of w = if w / 64 % 2 == 1 then Byte else Wide

abbrev pub then_option : {X Y : Type 0} → Option X → (X → Option Y) → Option Y
then_option None f = None
then_option (Some x) f = f x

unfoldable pub read_two : (w0 w1 w2 : ℕ) → Option Instr
read_two w0 w1 w2 =
    then_option (chosen op2s (w0 / 4096 - 4)) (λ op.
    then_option (source_rows (w0 / 256 % 16) w1 (w0 / 16 % 4)) (λ s.
    then_option (dst_rows (w0 % 16) (if length (src_words s) == 0 then w1 else w2) (w0 / 128 % 2)) (λ d.
    Some (instr.Two op (width_of w0) s d))))

unfoldable pub read_one : (w0 w1 : ℕ) → Option Instr
read_one w0 w1 =
    if w0 == 4864 then Some instr.Reti
    else then_option (chosen op1s (w0 / 128 % 8)) (λ op.
    then_option (source_rows (w0 % 16) w1 (w0 / 16 % 4)) (λ s.
    if takes_width op (width_of w0) && takes op s then Some (instr.One op (width_of w0) s) else None))

abbrev pub signed_ten : ℕ → ℤ
signed_ten k = if nat_lt k 512 then pos k else negsuc (1023 - k)

unfoldable pub read_jump : ℕ → Option Instr
read_jump w0 = then_option (chosen conds (w0 / 1024 % 8)) (λ c. Some (instr.Jump c (signed_ten (w0 % 1024))))

unfoldable pub read_instr : (w0 w1 w2 : ℕ) → Option Instr
read_instr w0 w1 w2 =
    if nat_le 16384 w0 then read_two w0 w1 w2
    else (if nat_le 8192 w0 then read_jump w0
    else (if w0 / 1024 == 4 then read_one w0 w1 else None))

-- the instruction that begins with three words, and how many spell it
unfoldable pub reading : (w0 w1 w2 : ℕ) → Option (Instr × ℕ)
reading w0 w1 w2 = then_option (read_instr w0 w1 w2) (λ i. Some (i, 1 + length (words_after i)))

-- the reading is by the spelling
abbrev pub ReadingLaw : Type 0
ReadingLaw = (w0 w1 w2 : ℕ) → w0 < 65536 → MatchOption (reading w0 w1 w2) (NoneBegins w0) (λ x. (x.1 ≤ 3) × Spells x.0 (take x.1 (w0 ∷ w1 ∷ w2 ∷ [])))

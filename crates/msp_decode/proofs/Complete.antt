-- The reading finds each instruction that is spelled.
use Rattle.std.proofs.Common.{◌≡◌, ℕ, ◌-◌, ◌/◌, ◌%◌, ◌≤◌, ◌<◌, true, false, ◌&&◌, cond, eqb, leb, [], ◌∷◌, ◌++◌, length, Some, ℤ, refl, ap, ◌∙◌, arith}
use Rattle.std.proofs.lemmas.Bool.Decides.{nat_tests}
use Rattle.std.proofs.lemmas.Int.{ints}
use Rattle.std.proofs.lemmas.List.{length-append}
use Rattle.msp_encode.specs.declared.instr.Op2.{Op2}
use Rattle.msp_encode.specs.declared.instr.Op2.TheVariants.{Mov, Add, Addc, Subc, Sub, Cmp, Dadd, Bit, Bic, Bis, Xor, And}
use Rattle.msp_encode.specs.declared.instr.Op1.{Op1}
use Rattle.msp_encode.specs.declared.instr.Op1.TheVariants.{Rrc, Swpb, Rra, Sxt, Push, Call}
use Rattle.msp_encode.specs.declared.instr.Cond.{Cond}
use Rattle.msp_encode.specs.declared.instr.Cond.TheVariants.{Ne, Eq, Nc, C, N, Ge, L, Always}
use Rattle.msp_encode.specs.declared.instr.Width.{Width}
use Rattle.msp_encode.specs.declared.instr.Width.TheVariants.{Wide, Byte}
use Rattle.msp_encode.specs.declared.instr.Cg.{Cg}
use Rattle.msp_encode.specs.declared.instr.Cg.TheVariants.{Zero, One, Two, Four, Eight, AllOnes}
use Rattle.msp_encode.specs.declared.instr.Src.{Src}
use Rattle.msp_encode.specs.declared.instr.Src.TheVariants as src
use Rattle.msp_encode.specs.declared.instr.Dst.{Dst}
use Rattle.msp_encode.specs.declared.instr.Dst.TheVariants as dst
use Rattle.msp_encode.specs.declared.instr.Instr.{Instr}
use Rattle.msp_encode.specs.declared.instr.Instr.TheVariants as instr
use Rattle.msp_encode.specs.Spelling.{op2_code, op1_code, cond_code, width_code, ConstRow, SrcRow, DstRow, src_words, dst_words, Takes, TakesWidth, OffsetRow, First, words_after, TwoFields, OneFields, JumpFields}
use Rattle.msp_encode.proofs.Codes.{op2_code-range, op1_code-range}
use Rattle.msp_decode.specs.Reading.{Leads}
use Rattle.msp_encode.specs.Legality.{takes_width, takes}
use Rattle.msp_decode.specs.Function.{chosen, op2s, op1s, conds, source_rows, dst_rows, width_of, signed_ten, read_two, read_one, read_jump, read_instr}
use Rattle.msp_decode.proofs.Lists.{leads-one, leads-second}

source_rows-const : (c : Cg) (r m x : ℕ) → ConstRow c r m → source_rows r x m ≡ Some (src.Const c)
source_rows-const Zero r m x h = grind (arith, nat_tests)
source_rows-const One r m x h = grind (arith, nat_tests)
source_rows-const Two r m x h = grind (arith, nat_tests)
source_rows-const Four r m x h = grind (arith, nat_tests)
source_rows-const Eight r m x h = grind (arith, nat_tests)
source_rows-const AllOnes r m x h = grind (arith, nat_tests)

pub source_rows-complete : (s : Src) (r m x : ℕ) → SrcRow s r m → Leads (src_words s) (x ∷ []) → source_rows r x m ≡ Some s
source_rows-complete (src.Reg n) r m x h e = grind (arith, nat_tests)
source_rows-complete (src.Indexed n y) r m x h e = grind (arith, nat_tests)
source_rows-complete (src.Symbolic y) r m x h e = grind (arith, nat_tests)
source_rows-complete (src.Absolute y) r m x h e = grind (arith, nat_tests)
source_rows-complete (src.Indirect n) r m x h e = grind (arith, nat_tests)
source_rows-complete (src.AutoInc n) r m x h e = grind (arith, nat_tests)
source_rows-complete (src.Immediate y) r m x h e = grind (arith, nat_tests)
source_rows-complete (src.Const c) r m x h e = source_rows-const c r m x h

pub dst_rows-complete : (d : Dst) (r m x : ℕ) → DstRow d r m → Leads (dst_words d) (x ∷ []) → dst_rows r x m ≡ Some d
dst_rows-complete (dst.Reg n) r m x h e = grind (arith, nat_tests)
dst_rows-complete (dst.Indexed n y) r m x h e = grind (arith, nat_tests)
dst_rows-complete (dst.Symbolic y) r m x h e = grind (arith, nat_tests)
dst_rows-complete (dst.Absolute y) r m x h e = grind (arith, nat_tests)

pub chosen-op2 : (op : Op2) (code : ℕ) → code ≡ op2_code op → chosen op2s (code - 4) ≡ Some op
chosen-op2 Mov code e = ap (λ k. chosen op2s (k - 4)) e
chosen-op2 Add code e = ap (λ k. chosen op2s (k - 4)) e
chosen-op2 Addc code e = ap (λ k. chosen op2s (k - 4)) e
chosen-op2 Subc code e = ap (λ k. chosen op2s (k - 4)) e
chosen-op2 Sub code e = ap (λ k. chosen op2s (k - 4)) e
chosen-op2 Cmp code e = ap (λ k. chosen op2s (k - 4)) e
chosen-op2 Dadd code e = ap (λ k. chosen op2s (k - 4)) e
chosen-op2 Bit code e = ap (λ k. chosen op2s (k - 4)) e
chosen-op2 Bic code e = ap (λ k. chosen op2s (k - 4)) e
chosen-op2 Bis code e = ap (λ k. chosen op2s (k - 4)) e
chosen-op2 Xor code e = ap (λ k. chosen op2s (k - 4)) e
chosen-op2 And code e = ap (λ k. chosen op2s (k - 4)) e

pub chosen-op1 : (op : Op1) (code : ℕ) → code ≡ op1_code op → chosen op1s code ≡ Some op
chosen-op1 Rrc code e = ap (λ k. chosen op1s k) e
chosen-op1 Swpb code e = ap (λ k. chosen op1s k) e
chosen-op1 Rra code e = ap (λ k. chosen op1s k) e
chosen-op1 Sxt code e = ap (λ k. chosen op1s k) e
chosen-op1 Push code e = ap (λ k. chosen op1s k) e
chosen-op1 Call code e = ap (λ k. chosen op1s k) e

pub chosen-cond : (c : Cond) (code : ℕ) → code ≡ cond_code c → chosen conds code ≡ Some c
chosen-cond Ne code e = ap (λ k. chosen conds k) e
chosen-cond Eq code e = ap (λ k. chosen conds k) e
chosen-cond Nc code e = ap (λ k. chosen conds k) e
chosen-cond C code e = ap (λ k. chosen conds k) e
chosen-cond N code e = ap (λ k. chosen conds k) e
chosen-cond Ge code e = ap (λ k. chosen conds k) e
chosen-cond L code e = ap (λ k. chosen conds k) e
chosen-cond Always code e = ap (λ k. chosen conds k) e

pub width_of-complete : (width : Width) (w : ℕ) → w / 64 % 2 ≡ width_code width → width_of w ≡ width
width_of-complete Wide w e = grind (arith, nat_tests)
width_of-complete Byte w e = grind (arith, nat_tests)

pub length-src_words : (s : Src) → length (src_words s) ≤ 1
length-src_words (src.Reg n) = omega arith
length-src_words (src.Indexed n x) = omega arith
length-src_words (src.Symbolic x) = omega arith
length-src_words (src.Absolute x) = omega arith
length-src_words (src.Indirect n) = omega arith
length-src_words (src.AutoInc n) = omega arith
length-src_words (src.Immediate x) = omega arith
length-src_words (src.Const c) = omega arith

pub length-dst_words : (d : Dst) → length (dst_words d) ≤ 1
length-dst_words (dst.Reg n) = omega arith
length-dst_words (dst.Indexed n x) = omega arith
length-dst_words (dst.Symbolic x) = omega arith
length-dst_words (dst.Absolute x) = omega arith

two-complete : (op : Op2) (width : Width) (s : Src) (d : Dst) (w w1 w2 : ℕ) → TwoFields op width s d w → Leads (src_words s ++ dst_words d) (w1 ∷ w2 ∷ []) → read_two w w1 w2 ≡ Some (instr.Two op width s d)
unfolding read_two
two-complete op width s d w w1 w2 f e =
    let parts = leads-second (src_words s) (dst_words d) w1 w2 (length-src_words s) (length-dst_words d) e in
    let by_op : chosen op2s (w / 4096 - 4) ≡ Some op = chosen-op2 op (w / 4096) f.op_code in
    let by_source : source_rows (w / 256 % 16) w1 (w / 16 % 4) ≡ Some s = source_rows-complete s (w / 256 % 16) (w / 16 % 4) w1 f.source parts.0 in
    let by_destination : dst_rows (w % 16) (cond (eqb (length (src_words s)) 0) w1 w2) (w / 128 % 2) ≡ Some d = dst_rows-complete d (w % 16) (w / 128 % 2) (cond (eqb (length (src_words s)) 0) w1 w2) f.destination parts.1 in
    let by_width : width_of w ≡ width = width_of-complete width w f.width_bit in
    simp (by_op, by_source, by_destination, by_width)

takes-complete : (op : Op1) (width : Width) (s : Src) → TakesWidth op width → Takes op s → (takes_width op width && takes op s) ≡ true
takes-complete op width s h k = grind arith

signed_ten-complete : (z : ℤ) (k : ℕ) → k < 1024 → OffsetRow z k → signed_ten k ≡ z
signed_ten-complete z k h e = grind (arith, nat_tests, ints)

not-reti : (op : Op1) (w : ℕ) → w / 128 % 8 ≡ op1_code op → eqb w 4864 ≡ false
not-reti op w e = let range = op1_code-range op in grind (arith, nat_tests)

read-reti : (w1 w2 : ℕ) → read_instr 4864 w1 w2 ≡ Some instr.Reti
unfolding read_instr read_one
read-reti w1 w2 = refl

one-complete : (op : Op1) (width : Width) (s : Src) (w w1 : ℕ) → OneFields op width s w → Leads (src_words s) (w1 ∷ []) → read_one w w1 ≡ Some (instr.One op width s)
unfolding read_one
one-complete op width s w w1 f e =
    let other : eqb w 4864 ≡ false = not-reti op w f.op_code in
    let by_op : chosen op1s (w / 128 % 8) ≡ Some op = chosen-op1 op (w / 128 % 8) f.op_code in
    let by_source : source_rows (w % 16) w1 (w / 16 % 4) ≡ Some s = source_rows-complete s (w % 16) (w / 16 % 4) w1 f.source e in
    let by_width : width_of w ≡ width = width_of-complete width w f.width_bit in
    let by_takes : (takes_width op width && takes op s) ≡ true = takes-complete op width s f.takes_width f.takes in
    simp (other, by_op, by_source, by_width, by_takes)

jump-complete : (c : Cond) (z : ℤ) (w : ℕ) → JumpFields c z w → read_jump w ≡ Some (instr.Jump c z)
unfolding read_jump
jump-complete c z w f =
    let by_code : chosen conds (w / 1024 % 8) ≡ Some c = chosen-cond c (w / 1024 % 8) f.code in
    let by_place : signed_ten (w % 1024) ≡ z = signed_ten-complete z (w % 1024) (omega arith) f.place in
    simp (by_code, by_place)

-- the instruction that a word begins is read, if its words are there
pub read_instr-complete : (i : Instr) (w w1 w2 : ℕ) → First i w → Leads (words_after i) (w1 ∷ w2 ∷ []) → read_instr w w1 w2 ≡ Some i
unfolding read_instr
read_instr-complete (instr.Two op width s d) w w1 w2 f e =
    let code = f.op_code in
    let range = op2_code-range op in
    let high : leb 16384 w ≡ true = grind (arith, nat_tests) in
    simp high (two-complete op width s d w w1 w2 f e)
read_instr-complete (instr.One op width s) w w1 w2 f e =
    let form = f.form in
    let low : leb 16384 w ≡ false = grind (arith, nat_tests) in
    let low_too : leb 8192 w ≡ false = grind (arith, nat_tests) in
    let same : eqb (w / 1024) 4 ≡ true = grind (arith, nat_tests) in
    simp (low, low_too, same) (one-complete op width s w w1 f (leads-one (src_words s) w1 w2 (length-src_words s) e))
read_instr-complete instr.Reti w w1 w2 f e = ap (λ v. read_instr v w1 w2) f ∙ read-reti w1 w2
read_instr-complete (instr.Jump c z) w w1 w2 f e =
    let form = f.form in
    let low : leb 16384 w ≡ false = grind (arith, nat_tests) in
    let high : leb 8192 w ≡ true = grind (arith, nat_tests) in
    simp (low, high) (jump-complete c z w f)

pub length-words_after : (i : Instr) → length (words_after i) ≤ 2
length-words_after (instr.Two op width s d) = omega (arith, length-append (src_words s) (dst_words d), length-src_words s, length-dst_words d)
length-words_after (instr.One op width s) = omega (arith, length-src_words s)
length-words_after instr.Reti = omega arith
length-words_after (instr.Jump c z) = omega arith

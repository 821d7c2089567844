-- How many words are behind a first word, by its fields.
use Rattle.std.proofs.Common.{◌≡◌, ℕ, ◌+◌, ◌/◌, ◌%◌, true, false, cond, eqb, leb, length, ap, sym, ◌∙◌, arith}
use Rattle.std.proofs.lemmas.Bool.Decides.{nat_tests}
use Rattle.std.proofs.lemmas.List.{length-append}
use Rattle.msp_encode.specs.declared.instr.Cg.{Cg}
use Rattle.msp_encode.specs.declared.instr.Cg.TheVariants.{Zero, One, Two, Four, Eight, AllOnes}
use Rattle.msp_encode.specs.declared.instr.Src.{Src}
use Rattle.msp_encode.specs.declared.instr.Src.TheVariants as src
use Rattle.msp_encode.specs.declared.instr.Dst.{Dst}
use Rattle.msp_encode.specs.declared.instr.Dst.TheVariants as dst
use Rattle.msp_encode.specs.declared.instr.Instr.{Instr}
use Rattle.msp_encode.specs.declared.instr.Instr.TheVariants as instr
use Rattle.msp_encode.specs.Spelling.{ConstRow, SrcRow, DstRow, src_words, dst_words, First, words_after}
use Rattle.msp_encode.proofs.Codes.{op2_code-range}

abbrev source_count : (register mode : ℕ) → ℕ
source_count r m = cond (eqb m 1) (cond (eqb r 3) 0 1) (cond (eqb m 3) (cond (eqb r 0) 1 0) 0)

abbrev behind_count : ℕ → ℕ
behind_count w = cond (leb 16384 w) (source_count (w / 256 % 16) (w / 16 % 4) + w / 128 % 2) (cond (eqb (w / 1024) 4) (source_count (w % 16) (w / 16 % 4)) 0)

count-const : (c : Cg) (r m : ℕ) → ConstRow c r m → source_count r m ≡ 0
count-const Zero r m h = grind (arith, nat_tests)
count-const One r m h = grind (arith, nat_tests)
count-const Two r m h = grind (arith, nat_tests)
count-const Four r m h = grind (arith, nat_tests)
count-const Eight r m h = grind (arith, nat_tests)
count-const AllOnes r m h = grind (arith, nat_tests)

count-source : (s : Src) (r m : ℕ) → SrcRow s r m → source_count r m ≡ length (src_words s)
count-source (src.Reg n) r m h = grind (arith, nat_tests)
count-source (src.Indexed n x) r m h = grind (arith, nat_tests)
count-source (src.Symbolic x) r m h = grind (arith, nat_tests)
count-source (src.Absolute x) r m h = grind (arith, nat_tests)
count-source (src.Indirect n) r m h = grind (arith, nat_tests)
count-source (src.AutoInc n) r m h = grind (arith, nat_tests)
count-source (src.Immediate x) r m h = grind (arith, nat_tests)
count-source (src.Const c) r m h = count-const c r m h

count-destination : (d : Dst) (r m : ℕ) → DstRow d r m → m ≡ length (dst_words d)
count-destination (dst.Reg n) r m h = omega (arith, h.1)
count-destination (dst.Indexed n x) r m h = omega (arith, h.1)
count-destination (dst.Symbolic x) r m h = omega (arith, h.1)
count-destination (dst.Absolute x) r m h = omega (arith, h.1)

count-behind : (i : Instr) (w : ℕ) → First i w → behind_count w ≡ length (words_after i)
count-behind (instr.Two op width s d) w f =
    let code = f.op_code in
    let range = op2_code-range op in
    let high : leb 16384 w ≡ true = grind (arith, nat_tests) in
    let by_source = count-source s (w / 256 % 16) (w / 16 % 4) f.source in
    let by_destination = count-destination d (w % 16) (w / 128 % 2) f.destination in
    simp (high, by_source, length-append) (ap (λ n. length (src_words s) + n) by_destination)
count-behind (instr.One op width s) w f =
    let form = f.form in
    let low : leb 16384 w ≡ false = grind (arith, nat_tests) in
    let same : eqb (w / 1024) 4 ≡ true = grind (arith, nat_tests) in
    simp (low, same) (count-source s (w % 16) (w / 16 % 4) f.source)
count-behind instr.Reti w f = ap behind_count f
count-behind (instr.Jump c z) w f =
    let form = f.form in
    let low : leb 16384 w ≡ false = grind (arith, nat_tests) in
    let other : eqb (w / 1024) 4 ≡ false = grind (arith, nat_tests) in
    simp (low, other)

pub same-count : (i j : Instr) (w : ℕ) → First i w → First j w → length (words_after i) ≡ length (words_after j)
same-count i j w f g = sym (count-behind i w f) ∙ count-behind j w g

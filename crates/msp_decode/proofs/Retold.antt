-- An instruction with other words behind its first.
use Rattle.std.proofs.Common.{◌≡◌, ℕ, ◌/◌, ◌%◌, cond, eqb, List, [], ◌∷◌, length, take, get_or, refl, ap, sym, ◌∙◌, arith}
use Rattle.msp_encode.specs.declared.instr.Op1.{Op1}
use Rattle.msp_encode.specs.declared.instr.Src.{Src}
use Rattle.msp_encode.specs.declared.instr.Src.TheVariants as src
use Rattle.msp_encode.specs.declared.instr.Dst.{Dst}
use Rattle.msp_encode.specs.declared.instr.Dst.TheVariants as dst
use Rattle.msp_encode.specs.declared.instr.Instr.{Instr}
use Rattle.msp_encode.specs.declared.instr.Instr.TheVariants as instr
use Rattle.msp_encode.specs.Spelling.{SrcRow, DstRow, src_words, dst_words, Takes, First, Spells, words_after}
use Rattle.msp_decode.specs.Reading.{Leads}
use Rattle.msp_decode.specs.Laws.{FirstWordDecides}
use Rattle.msp_decode.proofs.Lists.{leads-itself, leads-join, longer}
use Rattle.msp_decode.proofs.Complete.{length-words_after}
use Rattle.msp_decode.proofs.Counts.{same-count}
use Rattle.msp_decode.proofs.Same.{same-length}

-- the operand with another word, if it has one
abbrev pub source_with : Src → ℕ → Src
source_with (src.Reg n) y = src.Reg n
source_with (src.Indexed n x) y = src.Indexed n y
source_with (src.Symbolic x) y = src.Symbolic y
source_with (src.Absolute x) y = src.Absolute y
source_with (src.Indirect n) y = src.Indirect n
source_with (src.AutoInc n) y = src.AutoInc n
source_with (src.Immediate x) y = src.Immediate y
source_with (src.Const c) y = src.Const c

abbrev dst_with : Dst → ℕ → Dst
dst_with (dst.Reg n) y = dst.Reg n
dst_with (dst.Indexed n x) y = dst.Indexed n y
dst_with (dst.Symbolic x) y = dst.Symbolic y
dst_with (dst.Absolute x) y = dst.Absolute y

pub source-row : (s : Src) (r m y : ℕ) → SrcRow s r m → SrcRow (source_with s y) r m
source-row (src.Reg n) r m y h = h
source-row (src.Indexed n x) r m y h = h
source-row (src.Symbolic x) r m y h = h
source-row (src.Absolute x) r m y h = h
source-row (src.Indirect n) r m y h = h
source-row (src.AutoInc n) r m y h = h
source-row (src.Immediate x) r m y h = h
source-row (src.Const c) r m y h = h

pub source-takes : (op : Op1) (s : Src) (y : ℕ) → Takes op s → Takes op (source_with s y)
source-takes op (src.Reg n) y h = h
source-takes op (src.Indexed n x) y h = h
source-takes op (src.Symbolic x) y h = h
source-takes op (src.Absolute x) y h = h
source-takes op (src.Indirect n) y h = h
source-takes op (src.AutoInc n) y h = h
source-takes op (src.Immediate x) y h = h
source-takes op (src.Const c) y h = h

pub source-takes-back : (op : Op1) (s : Src) (y : ℕ) → Takes op (source_with s y) → Takes op s
source-takes-back op (src.Reg n) y h = h
source-takes-back op (src.Indexed n x) y h = h
source-takes-back op (src.Symbolic x) y h = h
source-takes-back op (src.Absolute x) y h = h
source-takes-back op (src.Indirect n) y h = h
source-takes-back op (src.AutoInc n) y h = h
source-takes-back op (src.Immediate x) y h = h
source-takes-back op (src.Const c) y h = h

pub source-leads : (s : Src) (y : ℕ) → Leads (src_words (source_with s y)) (y ∷ [])
source-leads (src.Reg n) y = refl
source-leads (src.Indexed n x) y = refl
source-leads (src.Symbolic x) y = refl
source-leads (src.Absolute x) y = refl
source-leads (src.Indirect n) y = refl
source-leads (src.AutoInc n) y = refl
source-leads (src.Immediate x) y = refl
source-leads (src.Const c) y = refl

dst-row : (d : Dst) (r m y : ℕ) → DstRow d r m → DstRow (dst_with d y) r m
dst-row (dst.Reg n) r m y h = h
dst-row (dst.Indexed n x) r m y h = h
dst-row (dst.Symbolic x) r m y h = h
dst-row (dst.Absolute x) r m y h = h

dst-leads : (d : Dst) (y : ℕ) → Leads (dst_words (dst_with d y)) (y ∷ [])
dst-leads (dst.Reg n) y = refl
dst-leads (dst.Indexed n x) y = refl
dst-leads (dst.Symbolic x) y = refl
dst-leads (dst.Absolute x) y = refl

-- the word that is the destination's, behind that source
abbrev word_behind : Src → (x y : ℕ) → ℕ
word_behind s x y = cond (eqb (length (src_words (source_with s x))) 0) x y

-- the instruction with the words behind its first from these two
abbrev pub with_words : Instr → (x y : ℕ) → Instr
with_words (instr.Two op width s d) x y = instr.Two op width (source_with s x) (dst_with d (word_behind s x y))
with_words (instr.One op width s) x y = instr.One op width (source_with s x)
with_words instr.Reti x y = instr.Reti
with_words (instr.Jump c z) x y = instr.Jump c z

pub with_words-first : (i : Instr) (w x y : ℕ) → First i w → First (with_words i x y) w
with_words-first (instr.Two op width s d) w x y f = record {
  op_code = f.op_code;
  width_bit = f.width_bit;
  source = source-row s (w / 256 % 16) (w / 16 % 4) x f.source;
  destination = dst-row d (w % 16) (w / 128 % 2) (word_behind s x y) f.destination;
}
with_words-first (instr.One op width s) w x y f = record {
  form = f.form;
  op_code = f.op_code;
  width_bit = f.width_bit;
  source = source-row s (w % 16) (w / 16 % 4) x f.source;
  takes_width = f.takes_width;
  takes = source-takes op s x f.takes;
}
with_words-first instr.Reti w x y f = f
with_words-first (instr.Jump c z) w x y f = f

pub with_words-leads : (i : Instr) (x y : ℕ) → Leads (words_after (with_words i x y)) (x ∷ y ∷ [])
with_words-leads (instr.Two op width s d) x y = leads-join (src_words (source_with s x)) (dst_words (dst_with d (word_behind s x y))) x y (source-leads s x) (dst-leads d (word_behind s x y))
with_words-leads (instr.One op width s) x y = longer (src_words (source_with s x)) x y (source-leads s x)
with_words-leads instr.Reti x y = refl
with_words-leads (instr.Jump c z) x y = refl

-- as many words as an instruction has complete one, behind its first word
completed : (i : Instr) (w : ℕ) (xs : List ℕ) → First i w → length xs ≡ length (words_after i) → (j : Instr) × Spells j (w ∷ xs)
completed i w xs f e =
    let x = get_or xs 0 0 in
    let y = get_or xs 1 0 in
    let j = with_words i x y in
    let g : First j w = with_words-first i w x y f in
    let count : length (words_after j) ≡ length xs = same-count j i w g f ∙ sym e in
    let lead : xs ≡ take (length xs) (x ∷ y ∷ []) = leads-itself xs (omega (arith, length-words_after i)) in
    let words : xs ≡ words_after j = lead ∙ ap (λ (n : ℕ). take n (x ∷ y ∷ [])) (sym count) ∙ sym (with_words-leads i x y) in
    (j, (g, words))

pub first-word-decides : FirstWordDecides
first-word-decides i w ws xs s = (λ t. same-length t.0 i w xs ws t.1 s, λ e. completed i w xs s.0 (e ∙ ap length s.1))

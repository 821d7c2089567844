-- An instruction with its operand words read from elsewhere.
use Rattle.std.proofs.Common.{◌≡◌, ℕ, zero, suc, ◌+◌, ◌<◌, ◌≤◌, ◌⊎◌, List, [], ◌∷◌, ◌++◌, length, get_or, drop, take, refl, sym, ap, ◌∙◌, subst, inl, inr, arith}
use Rattle.std.proofs.lemmas.List.{get_or-drop, length-take-le, length-append, get_or-take}
use Rattle.msp_encode.specs.declared.instr.Src.{Src}
use Rattle.msp_encode.specs.declared.instr.Src.TheVariants as src
use Rattle.msp_encode.specs.declared.instr.Dst.{Dst}
use Rattle.msp_encode.specs.declared.instr.Dst.TheVariants as dst
use Rattle.msp_encode.specs.declared.instr.Instr.{Instr}
use Rattle.msp_encode.specs.declared.instr.Instr.TheVariants as instr
use Rattle.msp_encode.specs.declared.instr.Op1.{Op1}
use Rattle.msp_encode.specs.Spelling.{First, SrcRow, DstRow, Takes, words_after, src_words, dst_words}
use Rattle.code_model.specs.Starts.{Begins, Stands}

abbrev pub placed_src : Src → ℕ → Src
placed_src (src.Indexed n x) v = src.Indexed n v
placed_src (src.Symbolic x) v = src.Symbolic v
placed_src (src.Absolute x) v = src.Absolute v
placed_src (src.Immediate x) v = src.Immediate v
placed_src (src.Reg n) v = src.Reg n
placed_src (src.Indirect n) v = src.Indirect n
placed_src (src.AutoInc n) v = src.AutoInc n
placed_src (src.Const k) v = src.Const k

abbrev pub placed_dst : Dst → ℕ → Dst
placed_dst (dst.Indexed n x) v = dst.Indexed n v
placed_dst (dst.Symbolic x) v = dst.Symbolic v
placed_dst (dst.Absolute x) v = dst.Absolute v
placed_dst (dst.Reg n) v = dst.Reg n

-- word k of the instruction is `f k`
abbrev pub placed : Instr → (ℕ → ℕ) → Instr
placed (instr.Two op w s d) f = instr.Two op w (placed_src s (f 1)) (placed_dst d (f (1 + length (src_words s))))
placed (instr.One op w s) f = instr.One op w (placed_src s (f 1))
placed instr.Reti f = instr.Reti
placed (instr.Jump c k) f = instr.Jump c k

src-row : (s : Src) (v r m : ℕ) → SrcRow s r m → SrcRow (placed_src s v) r m
src-row (src.Indexed n x) v r m h = h
src-row (src.Symbolic x) v r m h = h
src-row (src.Absolute x) v r m h = h
src-row (src.Immediate x) v r m h = h
src-row (src.Reg n) v r m h = h
src-row (src.Indirect n) v r m h = h
src-row (src.AutoInc n) v r m h = h
src-row (src.Const k) v r m h = h

dst-row : (d : Dst) (v r m : ℕ) → DstRow d r m → DstRow (placed_dst d v) r m
dst-row (dst.Indexed n x) v r m h = h
dst-row (dst.Symbolic x) v r m h = h
dst-row (dst.Absolute x) v r m h = h
dst-row (dst.Reg n) v r m h = h

takes-placed : (op : Op1) (s : Src) (v : ℕ) → Takes op s → Takes op (placed_src s v)
takes-placed op (src.Indexed n x) v h = h
takes-placed op (src.Symbolic x) v h = h
takes-placed op (src.Absolute x) v h = h
takes-placed op (src.Immediate x) v h = h
takes-placed op (src.Reg n) v h = h
takes-placed op (src.Indirect n) v h = h
takes-placed op (src.AutoInc n) v h = h
takes-placed op (src.Const k) v h = h

first-placed : (i : Instr) (f : ℕ → ℕ) (w : ℕ) → First i w → First (placed i f) w
first-placed (instr.Two op k s d) f w h = record {
  op_code = h.op_code;
  width_bit = h.width_bit;
  source = src-row s (f 1) _ _ h.source;
  destination = dst-row d (f (1 + length (src_words s))) _ _ h.destination;
}
first-placed (instr.One op k s) f w h = record {
  form = h.form;
  op_code = h.op_code;
  width_bit = h.width_bit;
  source = src-row s (f 1) _ _ h.source;
  takes_width = h.takes_width;
  takes = takes-placed op s (f 1) h.takes;
}
first-placed instr.Reti f w h = h
first-placed (instr.Jump c k) f w h = h

-- an operand has no word, or one
abbrev Shape : List ℕ → List ℕ → ℕ → Type 0
Shape before after v = ((before ≡ []) × (after ≡ [])) ⊎ ((length before ≡ 1) × (after ≡ v ∷ []))

src-shape : (s : Src) (v : ℕ) → Shape (src_words s) (src_words (placed_src s v)) v
src-shape (src.Indexed n x) v = inr (refl, refl)
src-shape (src.Symbolic x) v = inr (refl, refl)
src-shape (src.Absolute x) v = inr (refl, refl)
src-shape (src.Immediate x) v = inr (refl, refl)
src-shape (src.Reg n) v = inl (refl, refl)
src-shape (src.Indirect n) v = inl (refl, refl)
src-shape (src.AutoInc n) v = inl (refl, refl)
src-shape (src.Const k) v = inl (refl, refl)

dst-shape : (d : Dst) (v : ℕ) → Shape (dst_words d) (dst_words (placed_dst d v)) v
dst-shape (dst.Indexed n x) v = inr (refl, refl)
dst-shape (dst.Symbolic x) v = inr (refl, refl)
dst-shape (dst.Absolute x) v = inr (refl, refl)
dst-shape (dst.Reg n) v = inl (refl, refl)

-- an instruction's number of words
pub size-is : (l : List ℕ) (i : Instr) (n : ℕ) → Begins l i n → n ≡ 1 + length (words_after i)
size-is [] i zero h = absurd h.1
size-is [] i (suc n) h = absurd h.1
size-is (x ∷ xs) i zero h = absurd h.1
size-is (x ∷ xs) i (suc n) h = omega (arith, length-take-le n xs (omega (arith, h.0)), ap length h.1.1)

pub src-few : (s : Src) → length (src_words s) ≤ 1
src-few (src.Indexed n x) = omega arith
src-few (src.Symbolic x) = omega arith
src-few (src.Absolute x) = omega arith
src-few (src.Immediate x) = omega arith
src-few (src.Reg n) = omega arith
src-few (src.Indirect n) = omega arith
src-few (src.AutoInc n) = omega arith
src-few (src.Const k) = omega arith

two-tail : (before after bs ys : List ℕ) (f : ℕ → ℕ) → Shape before after (f 1) → Shape bs ys (f (1 + length before)) → take (length (before ++ bs)) (f 1 ∷ f 2 ∷ []) ≡ after ++ ys
two-tail before after bs ys f (inl (a, b)) (inl (c, e)) =
    let n : length (before ++ bs) ≡ 0 = omega (arith, length-append before bs, ap length a, ap length c) in
    ap (λ (k : ℕ). take k (f 1 ∷ f 2 ∷ [])) n ∙ sym (ap (λ (z : List ℕ). z ++ ys) b ∙ e)
two-tail before after bs ys f (inl (a, b)) (inr (c, e)) =
    let n : length (before ++ bs) ≡ 1 = omega (arith, length-append before bs, ap length a, c) in
    let one : 1 + length before ≡ 1 = omega (arith, ap length a) in
    ap (λ (k : ℕ). take k (f 1 ∷ f 2 ∷ [])) n ∙ sym (ap (λ (z : List ℕ). z ++ ys) b ∙ (e ∙ ap (λ (k : ℕ). f k ∷ []) one))
two-tail before after bs ys f (inr (a, b)) (inl (c, e)) =
    let n : length (before ++ bs) ≡ 1 = omega (arith, length-append before bs, a, ap length c) in
    ap (λ (k : ℕ). take k (f 1 ∷ f 2 ∷ [])) n ∙ sym (ap (λ (z : List ℕ). z ++ ys) b ∙ ap (λ (z : List ℕ). (f 1 ∷ []) ++ z) e)
two-tail before after bs ys f (inr (a, b)) (inr (c, e)) =
    let n : length (before ++ bs) ≡ 2 = omega (arith, length-append before bs, a, c) in
    let two : 1 + length before ≡ 2 = omega (arith, a) in
    ap (λ (k : ℕ). take k (f 1 ∷ f 2 ∷ [])) n ∙ sym (ap (λ (z : List ℕ). z ++ ys) b ∙ (ap (λ (z : List ℕ). (f 1 ∷ []) ++ z) e ∙ ap (λ (k : ℕ). f 1 ∷ f k ∷ []) two))

one-tail : (before after : List ℕ) (f : ℕ → ℕ) → Shape before after (f 1) → take (length before) (f 1 ∷ f 2 ∷ []) ≡ after
one-tail before after f (inl (a, b)) =
    let n : length before ≡ 0 = omega (arith, ap length a) in
    ap (λ (k : ℕ). take k (f 1 ∷ f 2 ∷ [])) n ∙ sym b
one-tail before after f (inr (a, b)) = ap (λ (k : ℕ). take k (f 1 ∷ f 2 ∷ [])) a ∙ sym b

tail-placed : (i : Instr) (f : ℕ → ℕ) → take (length (words_after i)) (f 1 ∷ f 2 ∷ []) ≡ words_after (placed i f)
tail-placed (instr.Two op w s d) f = two-tail (src_words s) (src_words (placed_src s (f 1))) (dst_words d) (dst_words (placed_dst d (f (1 + length (src_words s))))) f (src-shape s (f 1)) (dst-shape d (f (1 + length (src_words s))))
tail-placed (instr.One op w s) f = one-tail (src_words s) (src_words (placed_src s (f 1))) f (src-shape s (f 1))
tail-placed instr.Reti f = refl
tail-placed (instr.Jump c k) f = refl

-- three words that begin with the instruction's first word begin with the instruction that has the others
pub placed-begins : (i : Instr) (f : ℕ → ℕ) (w n : ℕ) → First i w → n ≡ 1 + length (words_after i) → n ≤ 3 → Begins (w ∷ f 1 ∷ f 2 ∷ []) (placed i f) n
placed-begins i f w n h e few =
    let k : n ≡ suc (length (words_after i)) = omega arith in
    subst (Begins (w ∷ f 1 ∷ f 2 ∷ []) (placed i f)) (sym k) (omega arith, (first-placed i f w h, tail-placed i f))

-- ---- operand words in code

pub operand-word : (code : List ℕ) (at : ℕ) (i : Instr) (n k : ℕ) → Stands code at i n → k < length (words_after i) → get_or code (at + (1 + k)) 0 ≡ get_or (words_after i) k 0
operand-word code at i n k h l = sym (get_or-drop at code (1 + k) 0) ∙ within (drop at code) n h
  where
    within : (ws : List ℕ) (n : ℕ) → Begins ws i n → get_or ws (1 + k) 0 ≡ get_or (words_after i) k 0
    within [] zero g = absurd g.1
    within [] (suc n) g = absurd g.1
    within (x ∷ xs) zero g = absurd g.1
    within (x ∷ xs) (suc n) g =
        let below : k < n = omega (arith, length-take-le n xs (omega (arith, g.0)), ap length g.1.1) in
        let e : 1 + k ≡ suc k = omega arith in
        ap (λ (y : ℕ). get_or (x ∷ xs) y 0) e ∙ (sym (get_or-take n xs k 0 below) ∙ ap (λ (y : List ℕ). get_or y k 0) g.1.1)

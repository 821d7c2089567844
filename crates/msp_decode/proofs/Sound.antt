-- What the reading finds is spelled.
use Rattle.std.proofs.Common.{◌&&◌, ◌≡◌, ℕ, suc, ◌+◌, ◌-◌, ◌/◌, ◌%◌, ◌≤◌, ◌<◌, Bool, true, false, cond, eqb, leb, [], ◌∷◌, length, take, Option, None, Some, MatchOption, refl, ap, sym, subst, ◌∙◌, arith}
use Rattle.std.proofs.lemmas.Bool.Decides.{nat_tests}
use Rattle.std.proofs.lemmas.Int.{ints}
use Rattle.msp_encode.specs.declared.instr.Op1.{Op1}
use Rattle.msp_encode.specs.declared.instr.Width.{Width}
use Rattle.msp_encode.specs.declared.instr.Src.{Src}
use Rattle.msp_encode.specs.declared.instr.Instr.{Instr}
use Rattle.msp_encode.specs.Spelling.{op2_code, op1_code, cond_code, width_code, SrcRow, DstRow, src_words, dst_words, Takes, TakesWidth, OffsetRow, First, words_after, Spells}
use Rattle.msp_decode.specs.Reading.{Leads, NoneBegins}
use Rattle.msp_encode.specs.Legality.{takes_width, takes}
use Rattle.msp_decode.specs.Function.{chosen, op2s, op1s, conds, source_rows, dst_rows, width_of, signed_ten, then_option, read_two, read_one, read_jump, read_instr, reading, ReadingLaw}
use Rattle.msp_decode.proofs.Lists.{leads-join, longer}
use Rattle.msp_decode.proofs.Complete.{read_instr-complete, length-words_after}
use Rattle.msp_decode.proofs.Retold.{with_words, with_words-first, with_words-leads}

source_rows-sound : (r m x : ℕ) → m < 4 → MatchOption (source_rows r x m) (Unit {0}) (λ s. SrcRow s r m × Leads (src_words s) (x ∷ []))
source_rows-sound r m x h = grind (arith, nat_tests)

dst_rows-sound : (r m x : ℕ) → m < 2 → MatchOption (dst_rows r x m) (Unit {0}) (λ d. DstRow d r m × Leads (dst_words d) (x ∷ []))
dst_rows-sound r m x h = grind (arith, nat_tests)

chosen-op2-sound : (n : ℕ) → MatchOption (chosen op2s n) (Unit {0}) (λ op. op2_code op ≡ n + 4)
chosen-op2-sound n = grind (arith, nat_tests)

chosen-op1-sound : (n : ℕ) → MatchOption (chosen op1s n) (Unit {0}) (λ op. op1_code op ≡ n)
chosen-op1-sound n = grind (arith, nat_tests)

chosen-cond-sound : (n : ℕ) → MatchOption (chosen conds n) (Unit {0}) (λ c. cond_code c ≡ n)
chosen-cond-sound n = grind (arith, nat_tests)

width_of-sound : (w : ℕ) → w / 64 % 2 ≡ width_code (width_of w)
width_of-sound w = grind (arith, nat_tests)

signed_ten-sound : (k : ℕ) → k < 1024 → OffsetRow (signed_ten k) k
signed_ten-sound k h = grind (arith, nat_tests, ints)

takes-sound : (op : Op1) (width : Width) (s : Src) → (takes_width op width && takes op s) ≡ true → TakesWidth op width × Takes op s
takes-sound op width s e = grind arith

match-bind : {X Y : Type 0} (o : Option X) (f : X → Option Y) (P : X → Type 0) (Q : Y → Type 0) → MatchOption o (Unit {0}) P → ((x : X) → P x → MatchOption (f x) (Unit {0}) Q) → MatchOption (then_option o f) (Unit {0}) Q
match-bind None f P Q h g = tt
match-bind (Some x) f P Q h g = g x h

abbrev IsRead : (w w1 w2 : ℕ) → Instr → Type 0
IsRead w w1 w2 i = First i w × Leads (words_after i) (w1 ∷ w2 ∷ [])

two-sound : (w w1 w2 : ℕ) → 16384 ≤ w → MatchOption (read_two w w1 w2) (Unit {0}) (IsRead w w1 w2)
unfolding read_two
two-sound w w1 w2 big =
    match-bind (chosen op2s (w / 4096 - 4)) _ _ _ (chosen-op2-sound (w / 4096 - 4)) (λ op e.
    match-bind (source_rows (w / 256 % 16) w1 (w / 16 % 4)) _ _ _ (source_rows-sound (w / 256 % 16) (w / 16 % 4) w1 (omega arith)) (λ s f.
    match-bind (dst_rows (w % 16) (cond (eqb (length (src_words s)) 0) w1 w2) (w / 128 % 2)) _ _ _ (dst_rows-sound (w % 16) (w / 128 % 2) (cond (eqb (length (src_words s)) 0) w1 w2) (omega arith)) (λ d g. (
      record { op_code = omega arith; width_bit = width_of-sound w; source = f.0; destination = g.0 },
      leads-join (src_words s) (dst_words d) w1 w2 f.1 g.1,
    ))))

match-if : {Y : Type 0} (b : Bool) (x y : Option Y) (Q : Y → Type 0) → (b ≡ true → MatchOption x (Unit {0}) Q) → (b ≡ false → MatchOption y (Unit {0}) Q) → MatchOption (cond b x y) (Unit {0}) Q
match-if true x y Q h k = h refl
match-if false x y Q h k = k refl

one-sound : (w w1 w2 : ℕ) → w / 1024 ≡ 4 → MatchOption (read_one w w1) (Unit {0}) (IsRead w w1 w2)
unfolding read_one
one-sound w w1 w2 form =
    match-if (eqb w 4864) _ _ _ (λ e. let same : w ≡ 4864 = grind (arith, nat_tests) in (same, refl)) (λ e.
    match-bind (chosen op1s (w / 128 % 8)) _ _ _ (chosen-op1-sound (w / 128 % 8)) (λ op e.
    match-bind (source_rows (w % 16) w1 (w / 16 % 4)) _ _ _ (source_rows-sound (w % 16) (w / 16 % 4) w1 (omega arith)) (λ s f.
    match-if (takes_width op (width_of w) && takes op s) _ _ _ (λ t. let taken = takes-sound op (width_of w) s t in (
      record { form = form; op_code = sym e; width_bit = width_of-sound w; source = f.0; takes_width = taken.0; takes = taken.1 },
      longer (src_words s) w1 w2 f.1,
    )) (λ t. tt))))

jump-sound : (w w1 w2 : ℕ) → w / 8192 ≡ 1 → MatchOption (read_jump w) (Unit {0}) (IsRead w w1 w2)
unfolding read_jump
jump-sound w w1 w2 form =
    match-bind (chosen conds (w / 1024 % 8)) _ _ _ (chosen-cond-sound (w / 1024 % 8)) (λ c e.
    (record { form = form; code = sym e; place = signed_ten-sound (w % 1024) (omega arith) }, refl))

read_instr-sound : (w w1 w2 : ℕ) → MatchOption (read_instr w w1 w2) (Unit {0}) (IsRead w w1 w2)
unfolding read_instr
read_instr-sound w w1 w2 =
    match-if (leb 16384 w) _ _ _ (λ e. let big : 16384 ≤ w = grind (arith, nat_tests) in two-sound w w1 w2 big) (λ e.
    match-if (leb 8192 w) _ _ _ (λ f. let form : w / 8192 ≡ 1 = grind (arith, nat_tests) in jump-sound w w1 w2 form) (λ f.
    match-if (eqb (w / 1024) 4) _ _ _ (λ g. let form : w / 1024 ≡ 4 = grind (arith, nat_tests) in one-sound w w1 w2 form) (λ g. tt)))

front : (n w w1 w2 : ℕ) (i : Instr) → n ≡ length (words_after i) → IsRead w w1 w2 i → Spells i (take (1 + n) (w ∷ w1 ∷ w2 ∷ []))
front n w w1 w2 i e h =
    let count : suc n ≡ 1 + n = omega arith in
    let words : take n (w1 ∷ w2 ∷ []) ≡ words_after i = ap (λ (k : ℕ). take k (w1 ∷ w2 ∷ [])) e ∙ sym h.1 in
    subst (λ (k : ℕ). Spells i (take k (w ∷ w1 ∷ w2 ∷ []))) count (h.0, words)

law-of : (o : Option Instr) (w w1 w2 : ℕ) → read_instr w w1 w2 ≡ o → MatchOption o (Unit {0}) (IsRead w w1 w2) → MatchOption {T = Instr × ℕ} (then_option {Y = Instr × ℕ} o (λ i. Some (i, 1 + length (words_after i)))) (NoneBegins w) (λ x. (x.1 ≤ 3) × Spells x.0 (take x.1 (w ∷ w1 ∷ w2 ∷ [])))
law-of None w w1 w2 e h = λ i ws s.
    let found = read_instr-complete (with_words i w1 w2) w w1 w2 (with_words-first i w w1 w2 s.0) (with_words-leads i w1 w2) in
    cc
law-of (Some i) w w1 w2 e h = (omega (arith, length-words_after i), front (length (words_after i)) w w1 w2 i refl h)

pub reading-law : ReadingLaw
unfolding reading
reading-law w w1 w2 h = law-of (read_instr w w1 w2) w w1 w2 refl (read_instr-sound w w1 w2)

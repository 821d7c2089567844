-- What stands in a guard's words.
use Rattle.std.proofs.Common.{◌≡◌, ◌≢◌, ℕ, ◌+◌, ◌/◌, ◌%◌, ◌≤◌, ◌<◌, List, [], ◌∷◌, ◌⊎◌, inl, inr, length, drop, slice_index, refl, sym, subst, ap, ◌∙◌, arith, ℤ, pos}
use Rattle.std.proofs.Math.Nat.{eq-or-lt_of_le}
use Rattle.std.proofs.lemmas.Bool.{cases_order}
use Rattle.std.proofs.lemmas.List.{get_or-drop, length-drop}
use Rattle.msp_encode.specs.declared.instr.Op2.{Op2}
use Rattle.msp_encode.specs.declared.instr.Op2.TheVariants.{Mov, Add, Cmp}
use Rattle.msp_encode.specs.declared.instr.Cond.{Cond}
use Rattle.msp_encode.specs.declared.instr.Cond.TheVariants.{Ne, Nc, C}
use Rattle.msp_encode.specs.declared.instr.Width.TheVariants.{Wide}
use Rattle.msp_encode.specs.declared.instr.Cg.TheVariants.{Zero}
use Rattle.msp_encode.specs.declared.instr.Src.TheVariants as src
use Rattle.msp_encode.specs.declared.instr.Dst.TheVariants as dst
use Rattle.msp_encode.specs.declared.instr.Instr.{Instr}
use Rattle.msp_encode.specs.declared.instr.Instr.TheVariants as instr
use Rattle.msp_encode.specs.Spelling.{First, words_after, op2_code}
use Rattle.msp_encode.specs.Forms.{IsReti}
use Rattle.code_model.specs.declared.object.Object.{Object}
use Rattle.code_model.specs.declared.guards.GuardKind.{GuardKind}
use Rattle.code_model.specs.declared.guards.GuardKind.TheVariants as guard
use Rattle.code_model.specs.Starts.{Begins, Stands, Start}
use Rattle.code_model.specs.Guards.{IsLoad, high_word, region_slots, guard_words, FitAll}
use Rattle.code_laws.proofs.Starting.{starts_apart, next_start}
use Rattle.code_laws.proofs.Begins.{guard_begins}

-- ---- what stands, by its first word

begins_one : (ws : List ℕ) (i : Instr) → 0 < length ws → First i (slice_index ws 0) → words_after i ≡ [] → Begins ws i 1
begins_one [] i h f e = absurd (omega arith)
begins_one (w ∷ ws) i h f e = (omega arith, (f, sym e))

begins_two : (ws : List ℕ) (i : Instr) → 1 < length ws → First i (slice_index ws 0) → words_after i ≡ slice_index ws 1 ∷ [] → Begins ws i 2
begins_two [] i h f e = absurd (omega arith)
begins_two (a ∷ []) i h f e = absurd (omega arith)
begins_two (a ∷ b ∷ ws) i h f e = (omega arith, (f, sym e))

dropped : (code : List ℕ) (at m : ℕ) → slice_index (drop at code) m ≡ slice_index code (at + m)
dropped code at m = get_or-drop at code m 0

stands_one : (code : List ℕ) (at w : ℕ) (i : Instr) → at < length code → slice_index code at ≡ w → First i w → words_after i ≡ [] → Stands code at i 1
stands_one code at w i inside is f e =
    let here : at + 0 ≡ at = omega arith in
    let first : slice_index (drop at code) 0 ≡ w = dropped code at 0 ∙ (ap (slice_index code) here ∙ is) in
    begins_one (drop at code) i (omega (arith, length-drop at code)) (subst (λ (v : ℕ). First i v) (sym first) f) e

stands_two : (code : List ℕ) (at w x : ℕ) (i : Instr) → at + 1 < length code → slice_index code at ≡ w → slice_index code (at + 1) ≡ x → First i w → words_after i ≡ x ∷ [] → Stands code at i 2
stands_two code at w x i inside is second f e =
    let here : at + 0 ≡ at = omega arith in
    let first : slice_index (drop at code) 0 ≡ w = dropped code at 0 ∙ (ap (slice_index code) here ∙ is) in
    let then : slice_index (drop at code) 1 ≡ x = dropped code at 1 ∙ second in
    begins_two (drop at code) i (omega (arith, length-drop at code)) (subst (λ (v : ℕ). First i v) (sym first) f) (e ∙ ap (λ (v : ℕ). v ∷ []) (sym then))

-- ---- the lines of a guard behind its first

data Line : Type 0 where
  Short : Line
  Long : Line

region_lines : List Line
region_lines = Short ∷ Long ∷ Long ∷ Short ∷ Long ∷ Short ∷ Long ∷ Short ∷ []

lines : GuardKind → List Line
lines guard.Store = region_lines
lines (guard.Wide r) = region_lines
lines guard.Load = region_lines
lines guard.Growth = Long ∷ Short ∷ Long ∷ Short ∷ []
lines guard.Pop = Long ∷ Short ∷ Long ∷ Short ∷ []
lines guard.Sp = Long ∷ Short ∷ Long ∷ Short ∷ Long ∷ Short ∷ []

-- an instruction of n words that isn't RETI stands at a place
pub record IsLine (o : Object) (at n : ℕ) : Type 0 where
  pub instr : Instr
  pub stands : Stands o.code at instr n
  pub not_reti : IsReti instr → ⊥

-- and its first word isn't a guard's first
pub record IsLaterLine (o : Object) (at n : ℕ) : Type 0 where
  pub line : IsLine o at n
  pub other : slice_index o.code at ≢ 0x4205

LinesAt : Object → ℕ → List Line → Type 0
LinesAt o at [] = Unit {0}
LinesAt o at (Short ∷ ls) = IsLaterLine o at 1 × LinesAt o (at + 1) ls
LinesAt o at (Long ∷ ls) = IsLaterLine o at 2 × LinesAt o (at + 1 + 1) ls

lines_end : ℕ → List Line → ℕ
lines_end at [] = at
lines_end at (Short ∷ ls) = lines_end (at + 1) ls
lines_end at (Long ∷ ls) = lines_end (at + 1 + 1) ls

lines_more : (at : ℕ) (ls : List Line) → at ≤ lines_end at ls
unfolding lines_end
lines_more at [] = omega arith
lines_more at (Short ∷ ls) = omega (arith, lines_more (at + 1) ls)
lines_more at (Long ∷ ls) = omega (arith, lines_more (at + 1 + 1) ls)

pub next_line : (o : Object) (at n : ℕ) → Start o.code at → IsLine o at n → at + n < length o.code → Start o.code (at + n)
next_line o at n s line inside = next_start o.code at line.instr n s line.stands inside

run_lines : (o : Object) (at : ℕ) (ls : List Line) → LinesAt o at ls → Start o.code at → lines_end at ls < length o.code → Start o.code (lines_end at ls)
unfolding LinesAt lines_end
run_lines o at [] here s inside = s
run_lines o at (Short ∷ ls) here s inside = run_lines o (at + 1) ls here.1 (next_line o at 1 s here.0.line (omega (arith, lines_more (at + 1) ls))) inside
run_lines o at (Long ∷ ls) here s inside =
    let e : at + 2 ≡ at + 1 + 1 = omega arith in
    run_lines o (at + 1 + 1) ls here.1 (subst (λ (k : ℕ). Start o.code k) e (next_line o at 2 s here.0.line (omega (arith, lines_more (at + 1 + 1) ls)))) inside

pub record OnLine (o : Object) (k : ℕ) : Type 0 where
  pub words : ℕ
  pub line : IsLine o k words

pub record OnLaterLine (o : Object) (k : ℕ) : Type 0 where
  pub words : ℕ
  pub later : IsLaterLine o k words

-- a start from a line on is that line or lies behind it
on_line : (o : Object) (at n k : ℕ) → Start o.code at → IsLaterLine o at n → Start o.code k → at ≤ k → OnLaterLine o k ⊎ (at + n ≤ k)
on_line o at n k s later t order =
    elim (eq-or-lt_of_le order) [
      | inl same ↦ inl (record { words = n; later = subst (λ (m : ℕ). IsLaterLine o m n) same later })
      | inr less ↦ inr (starts_apart o.code at k later.line.instr n s later.line.stands t less)
    ]

each_line : (o : Object) (at : ℕ) (ls : List Line) → LinesAt o at ls → Start o.code at → lines_end at ls < length o.code
    → (k : ℕ) → Start o.code k → at ≤ k → k < lines_end at ls → OnLaterLine o k
unfolding LinesAt lines_end
each_line o at [] here s inside k t low high = absurd (omega arith)
each_line o at (Short ∷ ls) here s inside k t low high =
    elim (on_line o at 1 k s here.0 t low) [
      | inl on ↦ on
      | inr more ↦ each_line o (at + 1) ls here.1 (next_line o at 1 s here.0.line (omega (arith, lines_more (at + 1) ls))) inside k t more high
    ]
each_line o at (Long ∷ ls) here s inside k t low high =
    let e : at + 2 ≡ at + 1 + 1 = omega arith in
    elim (on_line o at 2 k s here.0 t low) [
      | inl on ↦ on
      | inr more ↦ each_line o (at + 1 + 1) ls here.1 (subst (λ (k : ℕ). Start o.code k) e (next_line o at 2 s here.0.line (omega (arith, lines_more (at + 1 + 1) ls)))) inside k t (omega arith) high
    ]

-- ---- the lines of each guard

two_line : (o : Object) (at w : ℕ) (op : Op2) (r n : ℕ) → at < length o.code → slice_index o.code at ≡ w → First (instr.Two op Wide (src.Reg r) (dst.Reg n)) w → IsLine o at 1
two_line o at w op r n inside is f = record { instr = instr.Two op Wide (src.Reg r) (dst.Reg n); stands = stands_one o.code at w (instr.Two op Wide (src.Reg r) (dst.Reg n)) inside is f refl; not_reti = λ x. x }

-- `MOV SR,R5`
pub save_line : (o : Object) (at : ℕ) → at < length o.code → slice_index o.code at ≡ 0x4205 → IsLine o at 1
save_line o at inside is = two_line o at 0x4205 Mov 2 5 inside is (record { op_code = refl; width_bit = refl; source = (refl, refl, λ e. omega arith); destination = (refl, refl) })

-- `MOV R5,SR`
restore_line : (o : Object) (at : ℕ) → at < length o.code → slice_index o.code at ≡ 0x4502 → IsLine o at 1
restore_line o at inside is = two_line o at 0x4502 Mov 5 2 inside is (record { op_code = refl; width_bit = refl; source = (refl, refl, λ e. omega arith); destination = (refl, refl) })

is_three : (n : ℕ) → (n ≡ 3) ⊎ (n ≡ 3 → ⊥)
is_three n = elim (cases_order n 3) [ inl same ↦ inl same | inr other ↦ inr (λ e. elim other [ inl less ↦ omega arith | inr more ↦ omega arith ]) ]

pub load_line : (o : Object) (at w : ℕ) → at < length o.code → slice_index o.code at ≡ w → IsLoad w → IsLine o at 1
load_line o at w inside is load =
    elim (is_three (w / 256 % 16)) [
      | inl three ↦ record {
        instr = instr.Two Mov Wide (src.Const Zero) (dst.Reg 4);
        stands = stands_one o.code at w (instr.Two Mov Wide (src.Const Zero) (dst.Reg 4)) inside is
            (record { op_code = load.0; width_bit = omega (arith, load.1); source = (three, omega (arith, load.1)); destination = (omega (arith, load.1), omega (arith, load.1)) }) refl;
        not_reti = λ x. x;
      }
      | inr other ↦ two_line o at w Mov (w / 256 % 16) 4 inside is
          (record { op_code = load.0; width_bit = omega (arith, load.1); source = (refl, omega (arith, load.1), other); destination = (omega (arith, load.1), omega (arith, load.1)) })
    ]

-- an immediate source and a register
immediate_stands : (o : Object) (at w : ℕ) (op : Op2) (n : ℕ) → at + 1 < length o.code → slice_index o.code at ≡ w
    → w / 4096 ≡ op2_code op → w / 64 % 2 ≡ 0 → w / 256 % 16 ≡ 0 → w / 16 % 4 ≡ 3 → w % 16 ≡ n → w / 128 % 2 ≡ 0
    → Stands o.code at (instr.Two op Wide (src.Immediate (slice_index o.code (at + 1))) (dst.Reg n)) 2
immediate_stands o at w op n inside is code wide r m d a =
    stands_two o.code at w (slice_index o.code (at + 1)) (instr.Two op Wide (src.Immediate (slice_index o.code (at + 1))) (dst.Reg n)) inside is refl
    (record { op_code = code; width_bit = wide; source = (r, m); destination = (d, a) }) refl

pub add_stands : (o : Object) (at : ℕ) → at + 1 < length o.code → slice_index o.code at ≡ 0x5034 → Stands o.code at (instr.Two Add Wide (src.Immediate (slice_index o.code (at + 1))) (dst.Reg 4)) 2
add_stands o at inside is = immediate_stands o at 0x5034 Add 4 inside is refl refl refl refl refl refl

pub compare_stands : (o : Object) (at : ℕ) → at + 1 < length o.code → slice_index o.code at ≡ 0x9034 → Stands o.code at (instr.Two Cmp Wide (src.Immediate (slice_index o.code (at + 1))) (dst.Reg 4)) 2
compare_stands o at inside is = immediate_stands o at 0x9034 Cmp 4 inside is refl refl refl refl refl refl

pub add_line : (o : Object) (at : ℕ) → at + 1 < length o.code → slice_index o.code at ≡ 0x5034 → IsLine o at 2
add_line o at inside is = record { instr = instr.Two Add Wide (src.Immediate (slice_index o.code (at + 1))) (dst.Reg 4); stands = add_stands o at inside is; not_reti = λ x. x }

pub compare_line : (o : Object) (at : ℕ) → at + 1 < length o.code → slice_index o.code at ≡ 0x9034 → IsLine o at 2
compare_line o at inside is = record { instr = instr.Two Cmp Wide (src.Immediate (slice_index o.code (at + 1))) (dst.Reg 4); stands = compare_stands o at inside is; not_reti = λ x. x }

-- `MOV #imm,PC`
branch_line : (o : Object) (at : ℕ) → at + 1 < length o.code → slice_index o.code at ≡ 0x4030 → IsLine o at 2
branch_line o at inside is = record {
  instr = instr.Two Mov Wide (src.Immediate (slice_index o.code (at + 1))) (dst.Reg 0);
  stands = immediate_stands o at 0x4030 Mov 0 inside is refl refl refl refl refl refl;
  not_reti = λ x. x;
}

pub jump_line : (o : Object) (at w : ℕ) (c : Cond) (k : ℤ) → at < length o.code → slice_index o.code at ≡ w → First (instr.Jump c k) w → IsLine o at 1
jump_line o at w c k inside is f = record { instr = instr.Jump c k; stands = stands_one o.code at w (instr.Jump c k) inside is f refl; not_reti = λ x. x }

-- a comparison with an absolute source
absolute_line : (o : Object) (at w n : ℕ) → at + 1 < length o.code → slice_index o.code at ≡ w
    → w / 4096 ≡ 9 → w / 64 % 2 ≡ 0 → w / 256 % 16 ≡ 2 → w / 16 % 4 ≡ 1 → w % 16 ≡ n → w / 128 % 2 ≡ 0 → IsLine o at 2
absolute_line o at w n inside is code wide r m d a = record {
  instr = instr.Two Cmp Wide (src.Absolute (slice_index o.code (at + 1))) (dst.Reg n);
  stands = stands_two o.code at w (slice_index o.code (at + 1)) (instr.Two Cmp Wide (src.Absolute (slice_index o.code (at + 1))) (dst.Reg n)) inside is refl
      (record { op_code = code; width_bit = wide; source = (r, m); destination = (d, a) }) refl;
  not_reti = λ x. x;
}

-- and with an absolute destination
to_absolute_line : (o : Object) (at w n : ℕ) → at + 1 < length o.code → slice_index o.code at ≡ w
    → w / 4096 ≡ 9 → w / 64 % 2 ≡ 0 → w / 256 % 16 ≡ n → w / 16 % 4 ≡ 0 → (n ≡ 3 → ⊥) → w % 16 ≡ 2 → w / 128 % 2 ≡ 1 → IsLine o at 2
to_absolute_line o at w n inside is code wide r m other d a = record {
  instr = instr.Two Cmp Wide (src.Reg n) (dst.Absolute (slice_index o.code (at + 1)));
  stands = stands_two o.code at w (slice_index o.code (at + 1)) (instr.Two Cmp Wide (src.Reg n) (dst.Absolute (slice_index o.code (at + 1)))) inside is refl
      (record { op_code = code; width_bit = wide; source = (r, m, other); destination = (d, a) }) refl;
  not_reti = λ x. x;
}

-- a line whose first word is less, or greater, than a guard's first
before_save : (o : Object) (at n w : ℕ) → slice_index o.code at ≡ w → w < 0x4205 → IsLine o at n → IsLaterLine o at n
before_save o at n w is less line = record { line = line; other = λ e. omega arith }

after_save : (o : Object) (at n w : ℕ) → slice_index o.code at ≡ w → 0x4205 < w → IsLine o at n → IsLaterLine o at n
after_save o at n w is more line = record { line = line; other = λ e. omega arith }

load_later : (o : Object) (at : ℕ) → IsLoad (slice_index o.code at) → IsLine o at 1 → IsLaterLine o at 1
load_later o at load line = record { line = line; other = λ e. omega (arith, load.1, e) }

region_guard_lines : (o : Object) (at high : ℕ) → FitAll o at (region_slots high) → LinesAt o (at + 1) region_lines
unfolding LinesAt region_lines
region_guard_lines o at high (w0, (w1, (w2, (w3, (w4, (w5, (w6, (w7, (w8, (w9, (w10, (w11, (w12, end))))))))))))) = (
  load_later o _ w1.1.0 (load_line o _ _ w1.0 refl w1.1.0),
  (
    after_save o _ 2 0x5034 w2.1.0 (omega arith) (add_line o _ w3.0 w2.1.0),
    (
      after_save o _ 2 0x9034 w4.1.0 (omega arith) (compare_line o _ w5.0 w4.1.0),
      (
        before_save o _ 1 0x2803 w6.1.0 (omega arith) (jump_line o _ 0x2803 Nc (pos 3) w6.0 w6.1.0 (record { form = refl; code = refl; place = refl })),
        (
          after_save o _ 2 0x9034 w7.1.0 (omega arith) (compare_line o _ w8.0 w7.1.0),
          (
            before_save o _ 1 0x2802 w9.1.0 (omega arith) (jump_line o _ 0x2802 Nc (pos 2) w9.0 w9.1.0 (record { form = refl; code = refl; place = refl })),
            (
              before_save o _ 2 0x4030 w10.1.0 (omega arith) (branch_line o _ w11.0 w10.1.0),
              (after_save o _ 1 0x4502 w12.1.0 (omega arith) (restore_line o _ w12.0 w12.1.0), tt),
            ),
          ),
        ),
      ),
    ),
  ),
)

guard_lines : (o : Object) (at : ℕ) (g : GuardKind) → FitAll o at (guard_words g) → LinesAt o (at + 1) (lines g)
unfolding LinesAt lines
guard_lines o at guard.Store f = region_guard_lines o at 0 f
guard_lines o at (guard.Wide r) f = region_guard_lines o at (high_word r) f
guard_lines o at guard.Load f = region_guard_lines o at 0 f
guard_lines o at guard.Growth (w0, (w1, (w2, (w3, (w4, (w5, (w6, end))))))) = (
  after_save o _ 2 0x9211 w1.1.0 (omega arith) (absolute_line o _ 0x9211 1 w2.0 w1.1.0 refl refl refl refl refl refl),
  (
    before_save o _ 1 0x2C02 w3.1.0 (omega arith) (jump_line o _ 0x2C02 C (pos 2) w3.0 w3.1.0 (record { form = refl; code = refl; place = refl })),
    (
      before_save o _ 2 0x4030 w4.1.0 (omega arith) (branch_line o _ w5.0 w4.1.0),
      (after_save o _ 1 0x4502 w6.1.0 (omega arith) (restore_line o _ w6.0 w6.1.0), tt),
    ),
  ),
)
guard_lines o at guard.Pop (w0, (w1, (w2, (w3, (w4, (w5, (w6, end))))))) = (
  after_save o _ 2 0x9182 w1.1.0 (omega arith) (to_absolute_line o _ 0x9182 1 w2.0 w1.1.0 refl refl refl refl (λ e. omega arith) refl refl),
  (
    before_save o _ 1 0x2002 w3.1.0 (omega arith) (jump_line o _ 0x2002 Ne (pos 2) w3.0 w3.1.0 (record { form = refl; code = refl; place = refl })),
    (
      before_save o _ 2 0x4030 w4.1.0 (omega arith) (branch_line o _ w5.0 w4.1.0),
      (after_save o _ 1 0x4502 w6.1.0 (omega arith) (restore_line o _ w6.0 w6.1.0), tt),
    ),
  ),
)
guard_lines o at guard.Sp (w0, (w1, (w2, (w3, (w4, (w5, (w6, (w7, (w8, (w9, end)))))))))) = (
  after_save o _ 2 0x9214 w1.1.0 (omega arith) (absolute_line o _ 0x9214 4 w2.0 w1.1.0 refl refl refl refl refl refl),
  (
    before_save o _ 1 0x2803 w3.1.0 (omega arith) (jump_line o _ 0x2803 Nc (pos 3) w3.0 w3.1.0 (record { form = refl; code = refl; place = refl })),
    (
      after_save o _ 2 0x9482 w4.1.0 (omega arith) (to_absolute_line o _ 0x9482 4 w5.0 w4.1.0 refl refl refl refl (λ e. omega arith) refl refl),
      (
        before_save o _ 1 0x2C02 w6.1.0 (omega arith) (jump_line o _ 0x2C02 C (pos 2) w6.0 w6.1.0 (record { form = refl; code = refl; place = refl })),
        (
          before_save o _ 2 0x4030 w7.1.0 (omega arith) (branch_line o _ w8.0 w7.1.0),
          (after_save o _ 1 0x4502 w9.1.0 (omega arith) (restore_line o _ w9.0 w9.1.0), tt),
        ),
      ),
    ),
  ),
)

lines_to_end : (at : ℕ) (g : GuardKind) → lines_end (at + 1) (lines g) ≡ at + length (guard_words g)
unfolding lines_end lines region_lines
lines_to_end at guard.Store = omega arith
lines_to_end at (guard.Wide r) = omega arith
lines_to_end at guard.Load = omega arith
lines_to_end at guard.Growth = omega arith
lines_to_end at guard.Pop = omega arith
lines_to_end at guard.Sp = omega arith

more_words : (g : GuardKind) → 1 < length (guard_words g)
more_words guard.Store = omega arith
more_words (guard.Wide r) = omega arith
more_words guard.Load = omega arith
more_words guard.Growth = omega arith
more_words guard.Pop = omega arith
more_words guard.Sp = omega arith

-- ---- what follows

module _ (o : Object) (at : ℕ) (g : GuardKind) (fit : FitAll o at (guard_words g)) (s : Start o.code at) (inside : at + length (guard_words g) < length o.code) where
  first_line : IsLine o at 1
  first_line = save_line o at (omega arith) (guard_begins o at g fit)

  second : Start o.code (at + 1)
  second = next_line o at 1 s first_line (omega (arith, more_words g))

  -- behind a guard's words an instruction starts
  pub guard_reaches : Start o.code (at + length (guard_words g))
  guard_reaches =
      subst (λ (k : ℕ). Start o.code k) (lines_to_end at g) (run_lines o (at + 1) (lines g) (guard_lines o at g fit) second (omega (arith, lines_to_end at g)))

  -- a start among them, behind the first, is a line
  pub on_later_line : (k : ℕ) → Start o.code k → at < k → k < at + length (guard_words g) → OnLaterLine o k
  on_later_line k t low high = each_line o (at + 1) (lines g) (guard_lines o at g fit) second (omega (arith, lines_to_end at g)) k t (omega arith) (omega (arith, lines_to_end at g))

  pub on_guard_line : (k : ℕ) → Start o.code k → at ≤ k → k < at + length (guard_words g) → OnLine o k
  on_guard_line k t low high =
      elim (eq-or-lt_of_le low) [
        | inl same ↦ record { words = 1; line = subst (λ (m : ℕ). IsLine o m 1) same first_line }
        | inr less ↦ let on = on_later_line k t less high in record { words = on.words; line = on.later.line }
      ]

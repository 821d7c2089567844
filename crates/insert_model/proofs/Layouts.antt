-- Layouts: the units of the final one have the sizes that tell where they stand, and no distance in it is greater than in the
-- longest.
use Rattle.std.proofs.Common.{◌≡◌, ℕ, ◌+◌, ◌-◌, ◌*◌, ◌/◌, ◌≤◌, ◌<◌, nat_le, nat_lt, if◌then◌else◌, Bool, true, false, cond, List, [], ◌∷◌, inl, inr, length, ℤ, pos, negsuc, Option, None, Some, refl, sym, subst, ◌∙◌, arith, length-append}
use Rattle.std.proofs.lemmas.Bool.{and_parts, cases_lt, ltb-true, leb-true, lt-ltb}
use Rattle.std.proofs.lemmas.Int.{ints}
use Rattle.msp_encode.specs.declared.instr.Cond.{Cond}
use Rattle.msp_encode.specs.declared.instr.Cond.TheVariants as cond
use Rattle.msp_encode.specs.declared.instr.Instr.{Instr}
use Rattle.msp_encode.specs.declared.instr.Instr.TheVariants as instr
use Rattle.msp_encode.specs.Spelling.{InstrFits}
use Rattle.code_model.specs.Fields.{Fields}
use Rattle.insert_model.specs.declared.line.Line.{Line}
use Rattle.insert_model.specs.declared.piece.Piece.{Piece}
use Rattle.insert_model.specs.Words.{piece_words, unit_words}
use Rattle.insert_model.specs.Source.{own}
use Rattle.insert_model.specs.Guards.{jump}
use Rattle.insert_model.specs.Units.{static_bytes, target_offset, jump_unit, unit_of, unit}
use Rattle.insert_model.specs.Groups.{Group, groups}
use Rattle.insert_model.specs.Layout.{Jumps, jump_by, line_unit_of, line_unit, unit_of_lines, unit_in, units, before, words_before, longest, span_between, is_near, is_near_in, is_short, sized, final_offset, final}
use Rattle.insert_model.specs.Laws.{SizedLaw, ShortLaw}

-- how many words pieces have
size_of : List Piece → ℕ
size_of ps = length (unit_words ps)

-- ---- the sizes of units don't depend on offsets

-- two ways of jumps tell the same jumps to be short
abbrev Alike : Option ℤ → Option ℤ → Type 0
Alike None None = Unit {0}
Alike (Some j) (Some k) = Unit {0}
Alike None (Some k) = ⊥
Alike (Some k) None = ⊥

alike_jumps : (a b : Option ℤ) (c : Cond) (ps : List Piece) → Alike a b → size_of (jump_by a c ps) ≡ size_of (jump_by b c ps)
unfolding size_of unit_words piece_words
alike_jumps None None c ps h = refl
alike_jumps (Some j) (Some k) c ps h = refl
alike_jumps None (Some k) c ps h = absurd h
alike_jumps (Some j) None c ps h = absurd h

by_short : (b : Bool) (j k : ℤ) → Alike (if b then Some j else None) (if b then Some k else None)
by_short true j k = tt
by_short false j k = tt

alike : (f : Fields) (l : Line) → Alike (final f l) (sized f l)
unfolding final sized
alike f l = by_short (is_short f l) (final_offset f l l.instr) (pos 0)

alike_lines : (f : Fields) (size : ℕ) (l : Line) (i : Instr) → size_of (line_unit_of (final f) size l i) ≡ size_of (line_unit_of (sized f) size l i)
alike_lines f size l (instr.Two op w s d) = refl
alike_lines f size l (instr.One op w s) = refl
alike_lines f size l instr.Reti = refl
alike_lines f size l (instr.Jump c k) = alike_jumps (final f l) (sized f l) c (unit size l) (alike f l)

alike_units : (f : Fields) (size : ℕ) (l : Line) (ks : List Line) → size_of (unit_of_lines (final f) size l ks) ≡ size_of (unit_of_lines (sized f) size l ks)
unfolding line_unit
alike_units f size l [] = alike_lines f size l l.instr
alike_units f size l (k ∷ ks) = refl

-- the words of the units of a group and of those behind it
units_cons : (js : Jumps) (size : ℕ) (g : Group) (gs : List Group) → length (units js size (g ∷ gs)) ≡ size_of (unit_in js size g) + length (units js size gs)
unfolding units size_of
units_cons js size g gs = length-append (unit_words (unit_in js size g)) (units js size gs)

no_units : (js : Jumps) (size : ℕ) → length (units js size []) ≡ 0
unfolding units
no_units js size = refl

same_sizes : (f : Fields) (size : ℕ) (gs : List Group) → length (units (final f) size gs) ≡ length (units (sized f) size gs)
unfolding unit_in
same_sizes f size [] = no_units (final f) size ∙ sym (no_units (sized f) size)
same_sizes f size (g ∷ gs) =
    omega (arith, units_cons (final f) size g gs, units_cons (sized f) size g gs, same_sizes f size gs, alike_units f size g.head g.rest)

pub sized_law : SizedLaw
sized_law f gs = same_sizes f (static_bytes f) gs

-- ---- no unit is longer than in the longest layout

long_jump : (x : ℕ) (c : Cond) → 1 ≤ size_of (jump_unit x c)
unfolding size_of unit_words piece_words
long_jump x cond.Ne = omega arith
long_jump x cond.Eq = omega arith
long_jump x cond.Nc = omega arith
long_jump x cond.C = omega arith
long_jump x cond.N = omega arith
long_jump x cond.Ge = omega arith
long_jump x cond.L = omega arith
long_jump x cond.Always = omega arith

one_word : (k : ℤ) (c : Cond) → size_of (jump c k ∷ []) ≡ 1
unfolding size_of unit_words piece_words
one_word k c = refl

shorter_jump : (a : Option ℤ) (c : Cond) (ps : List Piece) → 1 ≤ size_of ps → size_of (jump_by a c ps) ≤ size_of ps
shorter_jump None c ps h = omega arith
shorter_jump (Some k) c ps h = omega (arith, one_word k c, h)

shorter_lines : (f : Fields) (size : ℕ) (l : Line) (i : Instr) → l.instr ≡ i → size_of (line_unit_of (sized f) size l i) ≤ size_of (line_unit_of longest size l i)
unfolding unit
shorter_lines f size l (instr.Two op w s d) e = omega arith
shorter_lines f size l (instr.One op w s) e = omega arith
shorter_lines f size l instr.Reti e = omega arith
shorter_lines f size l (instr.Jump c k) e =
    shorter_jump (sized f l) c (unit size l) (subst (λ (j : Instr). 1 ≤ size_of (unit_of size l.at (own l) j)) (sym e) (long_jump (target_offset l.at k) c))

shorter_units : (f : Fields) (size : ℕ) (l : Line) (ks : List Line) → size_of (unit_of_lines (sized f) size l ks) ≤ size_of (unit_of_lines longest size l ks)
unfolding line_unit
shorter_units f size l [] = shorter_lines f size l l.instr refl
shorter_units f size l (k ∷ ks) = omega arith

shorter : (f : Fields) (size : ℕ) (g : Group) → size_of (unit_in (sized f) size g) ≤ size_of (unit_in longest size g)
unfolding unit_in
shorter f size g = shorter_units f size g.head g.rest

-- ---- no distance is greater

-- the words before two places in two layouts
record Closer (p q s t : ℕ) : Type 0 where
  ordered : p ≤ q
  first : s ≤ t
  closer : t + p ≤ q + s

-- whether a group starts before a place, and before a later one
below : (f : Fields) (size a b : ℕ) (g : Group) (gs : List Group) (x y : Bool) → (x ≡ true → y ≡ true)
    → Closer (length (units longest size (before a gs))) (length (units longest size (before b gs))) (length (units (sized f) size (before a gs))) (length (units (sized f) size (before b gs)))
    → Closer (length (units longest size (cond x (g ∷ before a gs) (before a gs)))) (length (units longest size (cond y (g ∷ before b gs) (before b gs))))
    (length (units (sized f) size (cond x (g ∷ before a gs) (before a gs)))) (length (units (sized f) size (cond y (g ∷ before b gs) (before b gs))))
below f size a b g gs true true h r =
    record {
      ordered = omega (arith, r.ordered, units_cons longest size g (before a gs), units_cons longest size g (before b gs));
      first = omega (arith, r.first, units_cons (sized f) size g (before a gs), units_cons (sized f) size g (before b gs));
      closer = omega (arith, r.closer, units_cons longest size g (before a gs), units_cons longest size g (before b gs), units_cons (sized f) size g (before a gs), units_cons (sized f) size g (before b gs));
    }
below f size a b g gs false true h r =
    record {
      ordered = omega (arith, r.ordered, units_cons longest size g (before b gs));
      first = omega (arith, r.first, units_cons (sized f) size g (before b gs));
      closer = omega (arith, r.closer, units_cons longest size g (before b gs), units_cons (sized f) size g (before b gs), shorter f size g);
    }
below f size a b g gs false false h r = r
below f size a b g gs true false h r = let e : false ≡ true = h refl in absurd (cc)

closer : (f : Fields) (size a b : ℕ) (gs : List Group) → a ≤ b
    → Closer (length (units longest size (before a gs))) (length (units longest size (before b gs))) (length (units (sized f) size (before a gs))) (length (units (sized f) size (before b gs)))
unfolding before
closer f size a b [] h = record { ordered = omega arith; first = omega arith; closer = omega arith }
closer f size a b (g ∷ gs) h =
    below f size a b g gs (nat_lt g.head.at a) (nat_lt g.head.at b) (λ e. lt-ltb g.head.at b (omega (arith, ltb-true g.head.at a e, h))) (closer f size a b gs h)

-- ---- a short jump stays near

record Near (p t : ℕ) : Type 0 where
  ahead : t ≤ p + 512
  back : p < t + 512

near_of : (p t : ℕ) → is_near p t ≡ true → Near p t
unfolding is_near
near_of p t e = let both = and_parts (nat_le t (p + 512)) (nat_lt p (t + 512)) e in record { ahead = leb-true t (p + 512) both.0; back = ltb-true p (t + 512) both.1 }

stays_near : (f : Fields) (x y : ℕ) → is_near (words_before longest f x) (words_before longest f y) ≡ true → Near (words_before (sized f) f x) (words_before (sized f) f y)
unfolding words_before
stays_near f x y e =
    let n : Near (words_before longest f x) (words_before longest f y) = near_of (words_before longest f x) (words_before longest f y) e in
    elim (cases_lt (y / 2) (x / 2)) [
      | inl less ↦ let c = closer f (static_bytes f) (y / 2) (x / 2) (groups f) (omega arith) in record { ahead = omega (arith, c.first); back = omega (arith, c.closer, n.back) }
      | inr more ↦ let c = closer f (static_bytes f) (x / 2) (y / 2) (groups f) more in record { ahead = omega (arith, c.closer, n.ahead); back = omega (arith, c.first) }
    ]

span_fits : (p t : ℕ) (c : Cond) → Near p t → InstrFits (instr.Jump c (span_between p t))
unfolding span_between
span_fits p t c n = by (nat_lt p t) refl
  where
    by : (b : Bool) → nat_lt p t ≡ b → InstrFits (instr.Jump c (if b then pos (t - p - 1) else negsuc (p - t)))
    by true e = (omega (arith, ints), omega (arith, ints, n.ahead, ltb-true p t e))
    by false e = (omega (arith, ints, n.back), omega (arith, ints))

-- a short jump is near in the longest layout
short_near : (f : Fields) (l : Line) → is_short f l ≡ true → is_near_in longest f l l.instr ≡ true
unfolding is_short
short_near f l e = (and_parts (nat_le 2 f.version) (is_near_in longest f l l.instr) e).1

pub short_law : ShortLaw
short_law f l c k e s =
    let near : is_near (words_before longest f (2 * l.at)) (words_before longest f (target_offset l.at k)) ≡ true = subst (λ (i : Instr). is_near_in longest f l i ≡ true) e (short_near f l s) in
    subst (λ (i : Instr). InstrFits (instr.Jump c (final_offset f l i))) (sym e)
    (span_fits (words_before (sized f) f (2 * l.at)) (words_before (sized f) f (target_offset l.at k)) c (stays_near f (2 * l.at) (target_offset l.at k) near))

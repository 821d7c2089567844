-- A group's unit has words, so what stands before it goes to a lesser place.
use Rattle.std.proofs.Common.{◌≡◌, ℕ, suc, ◌*◌, ◌≤◌, ◌<◌, if◌then◌else◌, Bool, true, false, List, [], ◌∷◌, ◌++◌, ◌⊎◌, inl, inr, length, ℤ, Option, None, Some, sym, subst, ap, ◌∙◌, arith}
use Rattle.std.specs.List.{All, Any, flat_map}
use Rattle.std.proofs.lemmas.Bool.{cases_lt}
use Rattle.msp_encode.specs.declared.instr.Op1.{Op1}
use Rattle.msp_encode.specs.declared.instr.Op1.TheVariants.{Rrc, Swpb, Rra, Sxt, Push, Call}
use Rattle.msp_encode.specs.declared.instr.Op2.{Op2}
use Rattle.msp_encode.specs.declared.instr.Width.{Width}
use Rattle.msp_encode.specs.declared.instr.Cond.{Cond}
use Rattle.msp_encode.specs.declared.instr.Cond.TheVariants as cond
use Rattle.msp_encode.specs.declared.instr.Src.{Src}
use Rattle.msp_encode.specs.declared.instr.Dst.{Dst}
use Rattle.msp_encode.specs.declared.instr.Instr.{Instr}
use Rattle.msp_encode.specs.declared.instr.Instr.TheVariants as instr
use Rattle.msp_encode.specs.Forms.{writes, is_immediate}
use Rattle.insert_model.specs.declared.aim.Aim.{Aim}
use Rattle.insert_model.specs.declared.aim.Aim.TheVariants.{ToPc, ToSp, ToMemory, Elsewhere}
use Rattle.insert_model.specs.declared.line.Line.{Line}
use Rattle.insert_model.specs.declared.piece.Piece.{Piece}
use Rattle.insert_model.specs.Words.{piece_words, unit_words}
use Rattle.insert_model.specs.Source.{own}
use Rattle.insert_model.specs.Units.{aim, aim_one, is_popped, is_pc, is_plain_pop, popping, writing, changing, one_unit, jump_unit, target_offset, unit_of, unit}
use Rattle.code_model.specs.Fields.{Fields}
use Rattle.insert_model.specs.Groups.{Cell, cell, is_target, if_near, joins, Group, members}
use Rattle.insert_model.specs.Layout.{Jumps, jump_by, line_unit_of, line_unit, wide_unit, wide_unit_of, unit_of_lines, unit_in, units, before}
use Rattle.insert_model.specs.Laws.{Joins, IsGroup}
use Rattle.source_faults.specs.Read.{StartsIn}
use Rattle.source_faults.proofs.Anys.{any_cons, any_first, any_behind, any_none}
use Rattle.check_inserter.proofs.LaidUnits.{before_in, before_out}
use Rattle.check_inserter.proofs.Placing.{units_cons, units_before}

-- ---- a unit has a word

abbrev Some_words : List Piece → Type 0
Some_words ps = 1 ≤ length (unit_words ps)

some_cons : (p : Piece) (ps : List Piece) → Some_words (p ∷ ps)
unfolding unit_words piece_words
some_cons p ps = omega arith

some_if : (b : Bool) (x y : List Piece) → Some_words x → Some_words y → Some_words (if b then x else y)
some_if true x y hx hy = hx
some_if false x y hx hy = hy

some_popping : (op : Op2) (w : Width) (d : Dst) (p : Piece) → Some_words (popping op w d p)
some_popping op w d p = some_if (is_pc d) _ _ (some_cons _ _) (some_if (is_plain_pop op w d) _ _ (some_cons _ _) (some_cons _ _))

some_writing : (op : Op2) (w : Width) (s : Src) (p : Piece) (a : Aim) → Some_words (writing op w s p a)
some_writing op w s p ToPc = some_if (is_immediate s) _ _ (some_cons _ _) (some_cons _ _)
some_writing op w s p ToSp = some_cons _ _
some_writing op w s p (ToMemory n x k) = some_cons _ _
some_writing op w s p Elsewhere = some_cons _ _

some_changing : (op : Op1) (w : Width) (p : Piece) (a : Aim) → Some_words (changing op w p a)
some_changing op w p ToPc = some_cons _ _
some_changing op w p ToSp = some_cons _ _
some_changing op w p (ToMemory n x k) = some_cons _ _
some_changing op w p Elsewhere = some_cons _ _

some_one : (size : ℕ) (op : Op1) (w : Width) (s : Src) (p : Piece) → Some_words (one_unit size op w s p)
some_one size Rrc w s p = some_changing Rrc w p (aim_one size s p.source)
some_one size Swpb w s p = some_changing Swpb w p (aim_one size s p.source)
some_one size Rra w s p = some_changing Rra w p (aim_one size s p.source)
some_one size Sxt w s p = some_changing Sxt w p (aim_one size s p.source)
some_one size Push w s p = some_cons _ _
some_one size Call w s p = some_if (is_immediate s) _ _ (some_cons _ _) (some_cons _ _)

some_jump : (x : ℕ) (c : Cond) → Some_words (jump_unit x c)
some_jump x cond.Ne = some_cons _ _
some_jump x cond.Eq = some_cons _ _
some_jump x cond.Nc = some_cons _ _
some_jump x cond.C = some_cons _ _
some_jump x cond.N = some_cons _ _
some_jump x cond.Ge = some_cons _ _
some_jump x cond.L = some_cons _ _
some_jump x cond.Always = some_cons _ _

some_of : (size at : ℕ) (p : Piece) (i : Instr) → Some_words (unit_of size at p i)
some_of size at p (instr.Two op w s d) = some_if (is_popped s) _ _ (some_popping op w d p) (some_if (writes op) _ _ (some_writing op w s p (aim size d p.destination)) (some_cons _ _))
some_of size at p (instr.One op w s) = some_one size op w s p
some_of size at p instr.Reti = some_cons _ _
some_of size at p (instr.Jump c k) = some_jump (target_offset at k) c

unit_some : (size : ℕ) (l : Line) → 1 ≤ length (unit_words (unit size l))
unfolding unit
unit_some size l = some_of size l.at (own l) l.instr

-- ---- so has the unit of a group

some_jump_by : (j : Option ℤ) (c : Cond) (ps : List Piece) → Some_words ps → Some_words (jump_by j c ps)
some_jump_by None c ps h = h
some_jump_by (Some k) c ps h = some_cons _ _

some_line_by : (js : Jumps) (size : ℕ) (l : Line) (i : Instr) → Some_words (line_unit_of js size l i)
some_line_by js size l (instr.Two op w s d) = unit_some size l
some_line_by js size l (instr.One op w s) = unit_some size l
some_line_by js size l instr.Reti = unit_some size l
some_line_by js size l (instr.Jump c k) = some_jump_by (js l) c (unit size l) (unit_some size l)

some_line : (js : Jumps) (size : ℕ) (l : Line) → Some_words (line_unit js size l)
unfolding line_unit
some_line js size l = some_line_by js size l l.instr

some_wide : (c : Cell) (o : Option Cell) (ls : List Line) → o ≡ Some c → Some_words (wide_unit_of o ls)
unfolding wide_unit
some_wide c None ls e = absurd (cc)
some_wide c (Some d) ls e = some_cons _ _

some_lines : (f : Fields) (js : Jumps) (size : ℕ) (l : Line) (ks : List Line) → IsGroup f (record { head = l; rest = ks }) → Some_words (unit_of_lines js size l ks)
some_lines f js size l [] g = some_line js size l
some_lines f js size l (k ∷ ks) (inl e) = absurd (cc)
some_lines f js size l (k ∷ ks) (inr r) = some_wide r.from (cell l) (l ∷ k ∷ ks) r.begins

some_group : (f : Fields) (js : Jumps) (size : ℕ) (g : Group) → IsGroup f g → 1 ≤ length (unit_words (unit_in js size g))
unfolding unit_in
some_group f js size g is = some_lines f js size g.head g.rest is

all_rest : (P : Group → Type 0) (g : Group) (gs : List Group) → All P (g ∷ gs) → All P gs
all_rest P g gs h = λ k d less. h (suc k) d (omega arith)

-- ---- what a group begins at goes below the end

pub head_moves : (f : Fields) (js : Jumps) (size k : ℕ) (gs : List Group) → All (IsGroup f) gs → Any (λ (g : Group). g.head.at ≡ k) gs → length (units js size (before k gs)) < length (units js size gs)
head_moves f js size k [] all s = absurd (any_none (λ (g : Group). g.head.at ≡ k) s)
head_moves f js size k (g ∷ gs) all s =
    elim (any_cons (λ (h : Group). h.head.at ≡ k) g gs s) [
      | inl here ↦
          omega (arith, ap (λ (hs : List Group). length (units js size hs)) (before_out k g gs (omega arith)), units_before js size k gs, units_cons js size g gs, some_group f js size g (all 0 g (omega arith)))
      | inr behind ↦
          let less : length (units js size (before k gs)) < length (units js size gs) = head_moves f js size k gs (all_rest (IsGroup f) g gs all) behind in
          elim (cases_lt g.head.at k) [
            | inl early ↦ omega (arith, ap (λ (hs : List Group). length (units js size hs)) (before_in k g gs early), units_cons js size g (before k gs), units_cons js size g gs)
            | inr late ↦ omega (arith, ap (λ (hs : List Group). length (units js size hs)) (before_out k g gs late), units_cons js size g gs)
          ]
    ]

-- where there are lines, there are words
pub some_units : (f : Fields) (js : Jumps) (size k : ℕ) (gs : List Group) → All (IsGroup f) gs → StartsIn (flat_map members gs) k → 1 ≤ length (units js size gs)
unfolding StartsIn
some_units f js size k [] all s = absurd (any_none (λ (l : Line). l.at ≡ k) s)
some_units f js size k (g ∷ gs) all s = omega (arith, units_cons js size g gs, some_group f js size g (all 0 g (omega arith)))

-- ---- a target begins a group

any_split : (P : Line → Type 0) (xs ys : List Line) → Any P (xs ++ ys) → Any P xs ⊎ Any P ys
any_split P [] ys s = inr s
any_split P (x ∷ xs) ys s = elim (any_cons P x (xs ++ ys) s) [
  | inl h ↦ inl (any_first P x xs h)
  | inr t ↦ elim (any_split P xs ys t) [ inl a ↦ inl (any_behind P x xs a) | inr b ↦ inr b ]
]

not_joined : (f : Fields) (c : Cell) (l : Line) (t : ℕ) → l.at ≡ t → is_target f (2 * t) ≡ true → Joins f c l → ⊥
not_joined f c l t at is (d, e) =
    let here : is_target f (2 * l.at) ≡ true = ap (λ (n : ℕ). is_target f (2 * n)) at ∙ is in
    let none : joins f c l ≡ None = ap (λ (b : Bool). if b then None else if_near c (cell l)) here in
    let never : None ≡ Some d = sym none ∙ e in cc

not_later : (f : Fields) (g : Group) (t : ℕ) → IsGroup f g → is_target f (2 * t) ≡ true → Any (λ (l : Line). l.at ≡ t) g.rest → ⊥
not_later f g t (inl e) is s = any_none (λ (l : Line). l.at ≡ t) (subst (Any (λ (l : Line). l.at ≡ t)) e s)
not_later f g t (inr r) is (k, l, inside, same, at) = not_joined f r.from l t at is (subst (Joins f r.from) same (r.others k l inside))

pub target_begins : (f : Fields) (t : ℕ) (gs : List Group) → All (IsGroup f) gs → is_target f (2 * t) ≡ true → StartsIn (flat_map members gs) t → Any (λ (g : Group). g.head.at ≡ t) gs
unfolding StartsIn
target_begins f t [] all is s = absurd (any_none (λ (l : Line). l.at ≡ t) s)
target_begins f t (g ∷ gs) all is s = elim (any_split (λ (l : Line). l.at ≡ t) (members g) (flat_map members gs) s) [
  | inl here ↦ elim (any_cons (λ (l : Line). l.at ≡ t) g.head g.rest here) [
    | inl h ↦ any_first (λ (h : Group). h.head.at ≡ t) g gs h
    | inr later ↦ absurd (not_later f g t (all 0 g (omega arith)) is later)
  ]
  | inr behind ↦ any_behind (λ (h : Group). h.head.at ≡ t) g gs (target_begins f t gs (all_rest (IsGroup f) g gs all) is behind)
]

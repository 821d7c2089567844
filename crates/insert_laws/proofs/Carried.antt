-- A relocation on a piece's word is one that the word may have.
use Rattle.std.proofs.Common.{◌≡◌, ℕ, ◌+◌, ◌≤◌, ◌<◌, zero, suc, if◌then◌else◌, Bool, true, false, List, [], ◌∷◌, ◌++◌, ◌⊎◌, inl, inr, length, Option, None, Some, MatchOption, refl, sym, subst, ap, ◌∙◌, arith}
use Rattle.std.specs.List.{flat_map}
use Rattle.std.proofs.lemmas.List.{length-append}
use Rattle.msp_encode.specs.declared.instr.Op1.{Op1}
use Rattle.msp_encode.specs.declared.instr.Op1.TheVariants.{Rrc, Swpb, Rra, Sxt, Push, Call}
use Rattle.msp_encode.specs.declared.instr.Op2.{Op2}
use Rattle.msp_encode.specs.declared.instr.Op2.TheVariants.{Mov}
use Rattle.msp_encode.specs.declared.instr.Width.{Width}
use Rattle.msp_encode.specs.declared.instr.Width.TheVariants.{Wide}
use Rattle.msp_encode.specs.declared.instr.Cond.{Cond}
use Rattle.msp_encode.specs.declared.instr.Cond.TheVariants as cond
use Rattle.msp_encode.specs.declared.instr.Src.{Src}
use Rattle.msp_encode.specs.declared.instr.Src.TheVariants as src
use Rattle.msp_encode.specs.declared.instr.Dst.{Dst}
use Rattle.msp_encode.specs.declared.instr.Dst.TheVariants as dst
use Rattle.msp_encode.specs.declared.instr.Instr.{Instr}
use Rattle.msp_encode.specs.declared.instr.Instr.TheVariants as instr
use Rattle.msp_encode.specs.Spelling.{src_words, dst_words}
use Rattle.code_model.specs.declared.object.Object.{Object}
use Rattle.code_model.specs.declared.parts.RelKind.{RelKind}
use Rattle.code_model.specs.declared.parts.RelKind.TheVariants.{Code, Lo, Hi}
use Rattle.code_model.specs.Fields.{fields}
use Rattle.code_model.specs.Guards.{high_word}
use Rattle.code_model.specs.Rules.{SrcCarries, DstCarries, Carries}
use Rattle.insert_model.specs.declared.aim.Aim.{Aim}
use Rattle.insert_model.specs.declared.aim.Aim.TheVariants.{ToPc, ToSp, ToMemory, Elsewhere}
use Rattle.insert_model.specs.declared.line.Line.{Line}
use Rattle.insert_model.specs.declared.piece.Piece.{Piece}
use Rattle.insert_model.specs.declared.piece.Word.{Word}
use Rattle.msp_encode.specs.Spelled.{count}
use Rattle.msp_encode.specs.Forms.{writes, is_immediate}
use Rattle.insert_model.specs.Words.{with_kind, operand_words, piece_words, unit_words}
use Rattle.insert_model.specs.Source.{own_piece, own}
use Rattle.insert_model.specs.Guards.{base, plain, branch, take_sp, pop_r4, give_sp, region_guard, store_guard, growth_guard, pop_guard, sp_guard}
use Rattle.insert_model.specs.Units.{static_bytes, aim, aim_one, is_popped, is_pc, is_plain_pop, into_r4, through_r4, from_r4, popping, writing, changing, calling_value, one_unit, target_offset, jump_unit, unit_of, unit}
use Rattle.insert_model.specs.Groups.{Cell, cell, Group}
use Rattle.insert_model.specs.Layout.{difference_of, beside}
use Rattle.insert_laws.specs.Pieces.{pieces_of, moved_src, moved_dst, moved_instr}
use Rattle.insert_laws.specs.Laws.{kind_in}
use Rattle.insert_laws.specs.Shapes.{IsCleanLine}
use Rattle.insert_laws.proofs.UnitsFit.{own_instr}
use Rattle.insert_laws.proofs.Guarding.{span, span_cons, span_none}
use Rattle.insert_laws.proofs.ServedForms.{src_count}
use Rattle.insert_laws.proofs.CleanGroups.{AllGroups}
use Rattle.insert_laws.proofs.GroupUnits.{IsBeside, near_piece, beside_is, all_pieces}
use Rattle.kernel_model.specs.declared.map.TheConstants.{STACK_LIMIT, STACK_TOP}
use Rattle.kernel_model.specs.declared.entries.TheConstants.{CALLS, GOES, STACK_FAULT, STORE_FAULT}

-- ---- what an operand's word may carry

abbrev pub SrcMay : Src → Option RelKind → Type 0
SrcMay s j = (r : RelKind) → j ≡ Some r → 1 ≤ length (src_words s) → (SrcCarries s r → ⊥) → ⊥

abbrev pub DstMay : Dst → Option RelKind → Type 0
DstMay d k = (r : RelKind) → k ≡ Some r → 1 ≤ length (dst_words d) → (DstCarries d r → ⊥) → ⊥

abbrev pub MayInstr : Instr → (source destination : Option RelKind) → Type 0
MayInstr (instr.Two op w s d) j k = SrcMay s j × DstMay d k
MayInstr (instr.One op w s) j k = SrcMay s j
MayInstr instr.Reti j k = Unit {0}
MayInstr (instr.Jump c n) j k = Unit {0}

abbrev pub May : Piece → Type 0
May p = MayInstr p.instr p.source p.destination

abbrev pub AllMay : List Piece → Type 0
AllMay [] = Unit {0}
AllMay (p ∷ ps) = May p × AllMay ps

may_append : (xs ys : List Piece) → AllMay xs → AllMay ys → AllMay (xs ++ ys)
may_append [] ys hx hy = hy
may_append (x ∷ xs) ys hx hy = (hx.0, may_append xs ys hx.1 hy)

may_if : (b : Bool) (xs ys : List Piece) → AllMay xs → AllMay ys → AllMay (if b then xs else ys)
may_if true xs ys hx hy = hx
may_if false xs ys hx hy = hy

pub may_member : (xs : List Piece) (p : Piece) (ys : List Piece) → AllMay (xs ++ p ∷ ys) → May p
may_member [] p ys h = h.0
may_member (x ∷ xs) p ys h = may_member xs p ys h.1

none_some : (r : RelKind) (k : Option RelKind) → k ≡ None → k ≡ Some r → ⊥
none_some r k e f = let g : None ≡ Some r = sym e ∙ f in cc

bare : (s : Src) → SrcMay s None
bare s r e b never = none_some r None refl e

bare_dst : (d : Dst) → DstMay d None
bare_dst d r e b never = none_some r None refl e

any : (x : ℕ) (k : Option RelKind) → SrcMay (src.Immediate x) k
any x k r e b never = never tt

two : (s : Src) (d : Dst) → SrcMay s None × DstMay d None
two s d = (bare s, bare_dst d)

wide : (x : ℕ) (k : Option RelKind) (d : Dst) → SrcMay (src.Immediate x) k × DstMay d None
wide x k d = (any x k, bare_dst d)

region_may : (n x high : ℕ) (k : Option RelKind) → AllMay (region_guard n x high k)
region_may n x high k =
    (two (src.Reg 2) (dst.Reg 5), (two (base n) (dst.Reg 4), (wide x k (dst.Reg 4), (wide 0 (Some Lo) (dst.Reg 4), (tt, (wide high (Some Hi) (dst.Reg 4), (tt, (wide STORE_FAULT None (dst.Reg 0), (two (src.Reg 5) (dst.Reg 2), tt)))))))))

growth_may : AllMay growth_guard
growth_may = (two (src.Reg 2) (dst.Reg 5), (two (src.Absolute STACK_LIMIT) (dst.Reg 1), (tt, (wide STACK_FAULT None (dst.Reg 0), (two (src.Reg 5) (dst.Reg 2), tt)))))

pop_may : AllMay pop_guard
pop_may = (two (src.Reg 2) (dst.Reg 5), (two (src.Reg 1) (dst.Absolute STACK_TOP), (tt, (wide STACK_FAULT None (dst.Reg 0), (two (src.Reg 5) (dst.Reg 2), tt)))))

sp_may : AllMay sp_guard
sp_may =
    (two (src.Reg 2) (dst.Reg 5), (two (src.Absolute STACK_LIMIT) (dst.Reg 4), (tt, (two (src.Reg 4) (dst.Absolute STACK_TOP), (tt, (wide STACK_FAULT None (dst.Reg 0), (two (src.Reg 5) (dst.Reg 2), tt)))))))

own_may : (p : Piece) (i : Instr) → p.instr ≡ i → MayInstr i p.source p.destination → AllMay (p ∷ [])
own_may p i e h = (subst (λ (j : Instr). MayInstr j p.source p.destination) (sym e) h, tt)

-- ---- the words of a clean line

record OwnBoth (op : Op2) (w : Width) (s : Src) (d : Dst) (j k : Option RelKind) : Type 0 where
  one : length (src_words s) ≡ 1
  source : (own_piece (instr.Two op w s d) j k).source ≡ j
  destination : (own_piece (instr.Two op w s d) j k).destination ≡ k

record OwnLast (op : Op2) (w : Width) (s : Src) (d : Dst) (j k : Option RelKind) : Type 0 where
  none : length (src_words s) ≡ 0
  last : (own_piece (instr.Two op w s d) j k).destination ≡ j
  never : (r : RelKind) → SrcCarries s r → ⊥

own_cut : (op : Op2) (w : Width) (s : Src) (d : Dst) (j k : Option RelKind) → OwnBoth op w s d j k ⊎ OwnLast op w s d j k
own_cut op w (src.Reg n) d j k = inr (record { none = refl; last = refl; never = λ r h. h })
own_cut op w (src.Indexed n x) d j k = inl (record { one = refl; source = refl; destination = refl })
own_cut op w (src.Symbolic x) d j k = inl (record { one = refl; source = refl; destination = refl })
own_cut op w (src.Absolute x) d j k = inl (record { one = refl; source = refl; destination = refl })
own_cut op w (src.Indirect n) d j k = inr (record { none = refl; last = refl; never = λ r h. h })
own_cut op w (src.AutoInc n) d j k = inr (record { none = refl; last = refl; never = λ r h. h })
own_cut op w (src.Immediate x) d j k = inl (record { one = refl; source = refl; destination = refl })
own_cut op w (src.Const c) d j k = inr (record { none = refl; last = refl; never = λ r h. h })

module _ (o : Object) (l : Line) (clean : IsCleanLine o l) where
  word_one : (i : Instr) → l.instr ≡ i → (r : RelKind) → l.second ≡ Some r → 1 < count i → (Carries i 1 r → ⊥) → ⊥
  word_one i e r s b never =
      let c : Carries l.instr 1 r → ⊥ = λ h. never (subst (λ (j : Instr). Carries j 1 r) e h) in
      let n : 1 < count l.instr = subst (λ (j : Instr). 1 < count j) (sym e) b in
      clean.allowed (inr (inr (inr (inr (inr (inl (n, subst (λ (k : Option RelKind). MatchOption k ⊥ (λ k. Carries l.instr 1 k → ⊥)) (sym s) c)))))))

  word_two : (i : Instr) → l.instr ≡ i → (r : RelKind) → l.third ≡ Some r → 2 < count i → (Carries i 2 r → ⊥) → ⊥
  word_two i e r s b never =
      let c : Carries l.instr 2 r → ⊥ = λ h. never (subst (λ (j : Instr). Carries j 2 r) e h) in
      let n : 2 < count l.instr = subst (λ (j : Instr). 2 < count j) (sym e) b in
      clean.allowed (inr (inr (inr (inr (inr (inr (n, subst (λ (k : Option RelKind). MatchOption k ⊥ (λ k. Carries l.instr 2 k → ⊥)) (sym s) c)))))))

  module _ (op : Op2) (w : Width) (s : Src) (d : Dst) (line : l.instr ≡ instr.Two op w s d) where
    after : count (instr.Two op w s d) ≡ 1 + (length (src_words s) + length (dst_words d))
    after = ap (λ (n : ℕ). 1 + n) (length-append (src_words s) (dst_words d))

    cut_may : OwnBoth op w s d l.second l.third ⊎ OwnLast op w s d l.second l.third → MayInstr (instr.Two op w s d) (own_piece (instr.Two op w s d) l.second l.third).source (own_piece (instr.Two op w s d) l.second l.third).destination
    cut_may (inl b) = (
      (λ r e n never. word_one (instr.Two op w s d) line r (sym b.source ∙ e) (omega (arith, after, b.one)) (λ c. elim c [ inl x ↦ never x.1 | inr x ↦ omega (arith, x.0, b.one) ])),
      (λ r e n never. word_two (instr.Two op w s d) line r (sym b.destination ∙ e) (omega (arith, after, b.one, n)) (λ c. elim c [ inl x ↦ omega (arith, x.0) | inr x ↦ never x.1 ])),
    )
    cut_may (inr b) = (
      (λ r e n never. omega (arith, n, b.none)),
      (λ r e n never. word_one (instr.Two op w s d) line r (sym b.last ∙ e) (omega (arith, after, b.none, n)) (λ c. elim c [ inl x ↦ b.never r x.1 | inr x ↦ never x.1 ])),
    )

  pub two_own : (op : Op2) (w : Width) (s : Src) (d : Dst) → l.instr ≡ instr.Two op w s d → MayInstr (instr.Two op w s d) (own l).source (own l).destination
  two_own op w s d e =
      let h : MayInstr (instr.Two op w s d) (own_piece (instr.Two op w s d) l.second l.third).source (own_piece (instr.Two op w s d) l.second l.third).destination = cut_may op w s d e (own_cut op w s d l.second l.third) in
      subst (λ (i : Instr). MayInstr (instr.Two op w s d) (own_piece i l.second l.third).source (own_piece i l.second l.third).destination) (sym e) h

  one_own : (op : Op1) (w : Width) (s : Src) → l.instr ≡ instr.One op w s → SrcMay s (own l).source
  one_own op w s e =
      let h : SrcMay s l.second = λ r f n never. word_one (instr.One op w s) e r f (omega (arith, n)) (λ c. never c.1) in
      subst (λ (i : Instr). SrcMay s (own_piece i l.second l.third).source) (sym e) h

-- ---- units

popping_may : (op : Op2) (w : Width) (s : Src) (d : Dst) (p : Piece) → p.instr ≡ instr.Two op w s d → MayInstr (instr.Two op w s d) p.source p.destination → AllMay (popping op w d p)
popping_may op w s d p e h =
    may_if (is_pc d) (pop_guard ++ pop_r4 ∷ branch GOES None ∷ []) (if is_plain_pop op w d then pop_guard ++ p ∷ [] else pop_guard ++ pop_r4 ∷ from_r4 op w d p.destination ∷ [])
    (may_append pop_guard (pop_r4 ∷ branch GOES None ∷ []) pop_may (two (src.AutoInc 1) (dst.Reg 4), (wide GOES None (dst.Reg 0), tt)))
    (may_if (is_plain_pop op w d) (pop_guard ++ p ∷ []) (pop_guard ++ pop_r4 ∷ from_r4 op w d p.destination ∷ []) (may_append pop_guard (p ∷ []) pop_may (own_may p (instr.Two op w s d) e h))
    (may_append pop_guard (pop_r4 ∷ from_r4 op w d p.destination ∷ []) pop_may (two (src.AutoInc 1) (dst.Reg 4), ((bare (src.Reg 4), h.1), tt))))

writing_may : (op : Op2) (w : Width) (s : Src) (d : Dst) (p : Piece) (a : Aim) → p.instr ≡ instr.Two op w s d → MayInstr (instr.Two op w s d) p.source p.destination → AllMay (writing op w s p a)
writing_may op w s d p ToPc e h =
    may_if (is_immediate s) (p ∷ []) (into_r4 Mov Wide s p.source ∷ branch GOES None ∷ []) (own_may p (instr.Two op w s d) e h) ((h.0, bare_dst (dst.Reg 4)), (wide GOES None (dst.Reg 0), tt))
writing_may op w s d p ToSp e h =
    may_append (take_sp ∷ into_r4 op w s p.source ∷ sp_guard) (give_sp ∷ []) (two (src.Reg 1) (dst.Reg 4), ((h.0, bare_dst (dst.Reg 4)), sp_may)) (two (src.Reg 4) (dst.Reg 1), tt)
writing_may op w s d p (ToMemory n x k) e h = may_append (store_guard n x k) (through_r4 op w s p.source ∷ []) (region_may n x 0 k) ((h.0, bare_dst (dst.Indexed 4 0)), tt)
writing_may op w s d p Elsewhere e h = own_may p (instr.Two op w s d) e h

changing_may : (op : Op1) (w : Width) (s : Src) (p : Piece) (a : Aim) → p.instr ≡ instr.One op w s → SrcMay s p.source → AllMay (changing op w p a)
changing_may op w s p ToPc e h = own_may p (instr.One op w s) e h
changing_may op w s p ToSp e h = own_may p (instr.One op w s) e h
changing_may op w s p (ToMemory n x k) e h = may_append (store_guard n x k) (plain (instr.One op w (src.Indirect 4)) ∷ []) (region_may n x 0 k) (bare (src.Indirect 4), tt)
changing_may op w s p Elsewhere e h = own_may p (instr.One op w s) e h

one_may : (size : ℕ) (op : Op1) (w : Width) (s : Src) (p : Piece) → p.instr ≡ instr.One op w s → SrcMay s p.source → AllMay (one_unit size op w s p)
one_may size Rrc w s p e h = changing_may Rrc w s p (aim_one size s p.source) e h
one_may size Swpb w s p e h = changing_may Swpb w s p (aim_one size s p.source) e h
one_may size Rra w s p e h = changing_may Rra w s p (aim_one size s p.source) e h
one_may size Sxt w s p e h = changing_may Sxt w s p (aim_one size s p.source) e h
one_may size Push w s p e h = may_append growth_guard (p ∷ []) growth_may (own_may p (instr.One Push w s) e h)
one_may size Call w s p e h =
    may_if (is_immediate s) (growth_guard ++ p ∷ []) (calling_value s p.source) (may_append growth_guard (p ∷ []) growth_may (own_may p (instr.One Call w s) e h))
    (may_append (into_r4 Mov Wide s p.source ∷ growth_guard) (plain (instr.One Call Wide (src.Immediate CALLS)) ∷ []) ((h, bare_dst (dst.Reg 4)), growth_may) (any CALLS None, tt))

jump_may : (x : ℕ) (c : Cond) → AllMay (jump_unit x c)
jump_may x cond.Ne = (tt, (tt, (wide x (Some Code) (dst.Reg 0), tt)))
jump_may x cond.Eq = (tt, (tt, (wide x (Some Code) (dst.Reg 0), tt)))
jump_may x cond.Nc = (tt, (tt, (wide x (Some Code) (dst.Reg 0), tt)))
jump_may x cond.C = (tt, (tt, (wide x (Some Code) (dst.Reg 0), tt)))
jump_may x cond.N = (tt, (tt, (wide x (Some Code) (dst.Reg 0), tt)))
jump_may x cond.Ge = (tt, (tt, (wide x (Some Code) (dst.Reg 0), tt)))
jump_may x cond.L = (tt, (tt, (wide x (Some Code) (dst.Reg 0), tt)))
jump_may x cond.Always = (wide x (Some Code) (dst.Reg 0), tt)

instr_may : (o : Object) (l : Line) (size : ℕ) (i : Instr) → IsCleanLine o l → l.instr ≡ i → AllMay (unit_of size l.at (own l) i)
instr_may o l size (instr.Two op w s d) c e =
    let p : Piece = own l in
    let f : p.instr ≡ instr.Two op w s d = own_instr l.instr l.second l.third ∙ e in
    let h : MayInstr (instr.Two op w s d) p.source p.destination = two_own o l c op w s d e in
    may_if (is_popped s) (popping op w d p) (if writes op then writing op w s p (aim size d p.destination) else p ∷ []) (popping_may op w s d p f h)
    (may_if (writes op) (writing op w s p (aim size d p.destination)) (p ∷ []) (writing_may op w s d p (aim size d p.destination) f h) (own_may p (instr.Two op w s d) f h))
instr_may o l size (instr.One op w s) c e = one_may size op w s (own l) (own_instr l.instr l.second l.third ∙ e) (one_own o l c op w s e)
instr_may o l size instr.Reti c e = own_may (own l) instr.Reti (own_instr l.instr l.second l.third ∙ e) tt
instr_may o l size (instr.Jump d k) c e = jump_may (target_offset l.at k) d

unit_may : (o : Object) (l : Line) (size : ℕ) → IsCleanLine o l → AllMay (unit size l)
unfolding unit
unit_may o l size c = instr_may o l size l.instr c refl

-- the source's word is the line's own
near_may : (o : Object) (most : ℕ) (c : Cell) (l : Line) → IsBeside o most c l → AllMay (beside c l ∷ [])
near_may o most c l h =
    let t : MayInstr (instr.Two h.op h.width h.source (dst.Indexed h.base h.index)) (own l).source (own l).destination = two_own o l h.clean h.op h.width h.source (dst.Indexed h.base h.index) h.line in
    let p : AllMay (near_piece h.op h.width h.source (difference_of c (cell l)) (own l).source ∷ []) = ((t.0, bare_dst (dst.Indexed 4 (difference_of c (cell l)))), tt) in
    subst (λ (r : Piece). AllMay (r ∷ [])) (sym (beside_is o most c l h)) p

pub pieces_all_may : (o : Object) (gs : List Group) → AllGroups o gs → AllMay (pieces_of (fields o) gs)
pieces_all_may o gs c =
    all_pieces o AllMay tt may_append (λ l h. unit_may o l (static_bytes (fields o)) h) (λ l d k e s. (tt, tt)) (λ r d f. region_may d.base d.index (high_word r) d.kind) (near_may o) gs c

-- ---- a word of a piece

record Later (ws : List Word) (n : ℕ) (at : ℕ) (r : RelKind) : Type 0 where
  more : ℕ
  is : at ≡ n + more
  kind : kind_in ws more ≡ Some r

kind_split : (us ws : List Word) (at : ℕ) (r : RelKind) → kind_in (us ++ ws) at ≡ Some r → (kind_in us at ≡ Some r) ⊎ Later ws (length us) at r
kind_split [] ws at r e = inr (record { more = at; is = omega arith; kind = e })
kind_split (u ∷ us) ws zero r e = inl e
kind_split (u ∷ us) ws (suc at) r e = elim (kind_split us ws at r e) [
  | inl h ↦ inl h
  | inr h ↦ inr (record { more = h.more; is = omega (arith, h.is); kind = h.kind })
]

kind_of : (j : Option RelKind) (xs : List ℕ) (n : ℕ) (r : RelKind) → kind_in (with_kind j xs) n ≡ Some r → (n < length xs) × (j ≡ Some r)
kind_of j [] n r e = absurd (none_some r None refl e)
kind_of j (x ∷ xs) zero r e = (omega arith, e)
kind_of j (x ∷ xs) (suc n) r e = let h = kind_of j xs n r e in (omega (arith, h.0), h.1)

src_short : (s : Src) → length (src_words s) ≤ 1
src_short (src.Reg n) = omega arith
src_short (src.Indexed n x) = omega arith
src_short (src.Symbolic x) = omega arith
src_short (src.Absolute x) = omega arith
src_short (src.Indirect n) = omega arith
src_short (src.AutoInc n) = omega arith
src_short (src.Immediate x) = omega arith
src_short (src.Const c) = omega arith

dst_short : (d : Dst) → length (dst_words d) ≤ 1
dst_short (dst.Reg n) = omega arith
dst_short (dst.Indexed n x) = omega arith
dst_short (dst.Symbolic x) = omega arith
dst_short (dst.Absolute x) = omega arith

with_length : (j : Option RelKind) (xs : List ℕ) → length (with_kind j xs) ≡ length xs
with_length j [] = refl
with_length j (x ∷ xs) = ap suc (with_length j xs)

operand_may : (i : Instr) (j k : Option RelKind) → MayInstr i j k → (n : ℕ) (r : RelKind) → kind_in (operand_words i j k) n ≡ Some r → (Carries i (suc n) r → ⊥) → ⊥
operand_may (instr.Two op w s d) j k h n r e never = elim (kind_split (with_kind j (src_words s)) (with_kind k (dst_words d)) n r e) [
  | inl a ↦ let m = kind_of j (src_words s) n r a in let first : suc n ≡ 1 = omega (arith, m.0, src_short s) in h.0 r m.1 (omega (arith, m.0)) (λ c. never (inl (first, c)))
  | inr b ↦
      let m = kind_of k (dst_words d) b.more r b.kind in
      let last : suc n ≡ 1 + length (src_words s) = omega (arith, m.0, dst_short d, b.is, with_length j (src_words s)) in
      h.1 r m.1 (omega (arith, m.0)) (λ c. never (inr (last, c)))
]
operand_may (instr.One op w s) j k h n r e never = let m = kind_of j (src_words s) n r e in let first : suc n ≡ 1 = omega (arith, m.0, src_short s) in h r m.1 (omega (arith, m.0)) (λ c. never (first, c))
operand_may instr.Reti j k h n r e never = none_some r None refl e
operand_may (instr.Jump c x) j k h n r e never = none_some r None refl e

pub piece_may : (p : Piece) → May p → (m : ℕ) (r : RelKind) → kind_in (piece_words p) m ≡ Some r → (Carries p.instr m r → ⊥) → ⊥
unfolding piece_words
piece_may p h zero r e never = none_some r None refl e
piece_may p h (suc n) r e never = operand_may p.instr p.source p.destination h n r e never

-- ---- as it stands

src_carries : (go : ℕ → ℕ) (j : Option RelKind) (s : Src) (r : RelKind) → SrcCarries s r → (let t : Src = moved_src go j s in SrcCarries t r)
src_carries go j (src.Reg n) r h = h
src_carries go j (src.Indexed n x) r h = h
src_carries go j (src.Symbolic x) r h = h
src_carries go j (src.Absolute x) r h = h
src_carries go j (src.Indirect n) r h = h
src_carries go j (src.AutoInc n) r h = h
src_carries go j (src.Immediate x) r h = h
src_carries go j (src.Const c) r h = h

dst_carries : (go : ℕ → ℕ) (k : Option RelKind) (d : Dst) (r : RelKind) → DstCarries d r → (let e : Dst = moved_dst go k d in DstCarries e r)
dst_carries go k (dst.Reg n) r h = h
dst_carries go k (dst.Indexed n x) r h = h
dst_carries go k (dst.Symbolic x) r h = h
dst_carries go k (dst.Absolute x) r h = h

pub carries_moved : (go : ℕ → ℕ) (i : Instr) (j k : Option RelKind) (m : ℕ) (r : RelKind) → Carries i m r → Carries (moved_instr go j k i) m r
carries_moved go (instr.Two op w s d) j k m r (inl h) = inl (h.0, src_carries go j s r h.1)
carries_moved go (instr.Two op w s d) j k m r (inr h) = let e : m ≡ 1 + length (src_words (moved_src go j s)) = omega (arith, h.0, src_count go j s) in inr (e, dst_carries go k d r h.1)
carries_moved go (instr.One op w s) j k m r h = (h.0, src_carries go j s r h.1)
carries_moved go instr.Reti j k m r h = h
carries_moved go (instr.Jump c n) j k m r h = h

-- ---- the piece of a word

pub record WordOf (ps : List Piece) (at : ℕ) (r : RelKind) : Type 0 where
  pub before : List Piece
  pub piece : Piece
  pub after : List Piece
  pub are : ps ≡ before ++ piece ∷ after
  pub word : ℕ
  pub place : at ≡ span before + word
  pub kind : kind_in (piece_words piece) word ≡ Some r

pub word_of : (ps : List Piece) (at : ℕ) (r : RelKind) → kind_in (unit_words ps) at ≡ Some r → WordOf ps at r
unfolding unit_words
word_of [] at r e = absurd (none_some r None refl e)
word_of (p ∷ ps) at r e = elim (kind_split (piece_words p) (flat_map piece_words ps) at r e) [
  | inl h ↦ record { before = []; piece = p; after = ps; are = refl; word = at; place = omega (arith, span_none); kind = h }
  | inr h ↦
      let w : WordOf ps h.more r = word_of ps h.more r h.kind in
      record { before = p ∷ w.before; piece = w.piece; after = w.after; are = ap (λ (qs : List Piece). p ∷ qs) w.are; word = w.word; place = omega (arith, h.is, w.place, span_cons p w.before); kind = w.kind }
]

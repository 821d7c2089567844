-- All pieces of a clean object are shaped.
use Rattle.std.proofs.Common.{◌≡◌, ℕ, ◌≤◌, ◌<◌, if◌then◌else◌, Bool, true, false, List, [], ◌∷◌, ◌++◌, ◌⊎◌, inl, inr, map, pos, Option, None, refl, sym, subst, ap, ◌∙◌, arith, rules}
use Rattle.std.specs.List.{AllByRecursion}
use Rattle.std.proofs.lemmas.List.{append_assoc, append-nil, length-map}
use Rattle.msp_encode.specs.declared.instr.Op1.{Op1}
use Rattle.msp_encode.specs.declared.instr.Op1.TheVariants.{Rrc, Swpb, Rra, Sxt, Push, Call}
use Rattle.msp_encode.specs.declared.instr.Op2.TheVariants.{Mov}
use Rattle.msp_encode.specs.declared.instr.Width.{Width}
use Rattle.msp_encode.specs.declared.instr.Width.TheVariants.{Wide}
use Rattle.msp_encode.specs.declared.instr.Cond.{Cond}
use Rattle.msp_encode.specs.declared.instr.Cond.TheVariants as cond
use Rattle.msp_encode.specs.declared.instr.Src.{Src}
use Rattle.msp_encode.specs.declared.instr.Src.TheVariants as src
use Rattle.msp_encode.specs.declared.instr.Instr.{Instr}
use Rattle.msp_encode.specs.declared.instr.Instr.TheVariants as instr
use Rattle.msp_encode.specs.Spelling.{InstrFits}
use Rattle.msp_encode.specs.Forms.{Changes, Stacks, Pops, IsReti, WritesReg, is_immediate}
use Rattle.code_model.specs.declared.object.Object.{Object}
use Rattle.code_model.specs.declared.parts.RelKind.{RelKind}
use Rattle.code_model.specs.declared.guards.Reach.{Reach}
use Rattle.code_model.specs.declared.guards.GuardKind.{GuardKind}
use Rattle.code_model.specs.declared.guards.GuardKind.TheVariants as guard
use Rattle.code_model.specs.Fields.{fields}
use Rattle.code_model.specs.Guards.{reach_bytes, StepsNoPointer, IsGrowthForm}
use Rattle.code_model.specs.Rules.{IsMemorySrc, WritesMemory, ReadsStack, IsPushOrCall}
use Rattle.insert_model.specs.declared.aim.Aim.TheVariants.{ToMemory, Elsewhere}
use Rattle.insert_model.specs.declared.line.Line.{Line}
use Rattle.insert_model.specs.declared.piece.Piece.{Piece}
use Rattle.insert_model.specs.Source.{own}
use Rattle.insert_model.specs.Guards.{plain, save, jump, branch, store_guard, wide_guard, growth_guard}
use Rattle.insert_model.specs.Units.{static_bytes, is_static, aim_one, into_r4, changing, calling_value, calling, one_unit, jump_unit, target_offset, unit_of, unit}
use Rattle.insert_model.specs.Groups.{Cell, cell, Group, members}
use Rattle.insert_model.specs.Layout.{difference_of, beside, final_offset}
use Rattle.insert_model.specs.Faults.{UsesCheck, SrcUsesCheck, HasSymbolic, HasBadOperand, IsSpecial, IsAutoInc, HasForbiddenPop}
use Rattle.insert_laws.specs.Pieces.{unit_of_group, pieces_of}
use Rattle.insert_laws.specs.Shapes.{IsGuard, IsServed, Shaped, Ends, Free, Guards, IsFreeForm, IsCleanLine}
use Rattle.insert_laws.proofs.UnitsFit.{own_instr}
use Rattle.insert_laws.proofs.CleanGroups.{IsCleanGroup, AllGroups}
use Rattle.insert_laws.proofs.GroupUnits.{IsBeside, beside_is, AllBeside, IsWideUnit, UnitIs, Lone, Short, Several, unit_is, pieces_by}
use Rattle.insert_laws.proofs.Guarding.{HasTail, guard_tail, heads, no_cut}
use Rattle.insert_laws.proofs.Shaping.{IsPlainForm, Good, shaped_if, none, free, guarded, free_branch, free_jump, free_into, quiet_of, writes_so, clean_saves, store_of, base_register, two_shaped}
use Rattle.kernel_model.specs.declared.entries.TheConstants.{CALLS}

-- ---- one operand

pub record IsOne (o : Object) (l : Line) (p : Piece) (op : Op1) (w : Width) (s : Src) : Type 0 where
  pub clean : IsCleanLine o l
  pub line : l.instr ≡ instr.One op w s
  pub piece : p.instr ≡ instr.One op w s

module _ (o : Object) (l : Line) (p : Piece) (op : Op1) (w : Width) (s : Src) (is : IsOne o l p op w s) where
  no_check_src : SrcUsesCheck s → ⊥
  no_check_src h = is.clean.free (subst UsesCheck (sym is.line) h)

  no_pop : Stacks op → Pops s 1 → ⊥
  no_pop h pops = is.clean.allowed (inr (inr (inl (subst HasForbiddenPop (sym is.line) (h, pops)))))

  no_bad : Changes op → (IsSpecial s ⊎ IsAutoInc s) → ⊥
  no_bad h b = is.clean.allowed (inr (inl (inr (inr (subst HasBadOperand (sym is.line) (h, b))))))

  no_symbolic : (x : ℕ) → s ≡ src.Symbolic x → ⊥
  no_symbolic x e = is.clean.allowed (inr (inl (inr (inl (subst HasSymbolic (sym (is.line ∙ ap (λ (y : Src). instr.One op w y) e)) tt)))))

  served_growth : Stacks op → IsServed guard.Growth p
  served_growth h = subst IsGrowthForm (sym is.piece) (h, quiet_of s no_check_src (no_pop h))

  fits_one : InstrFits (instr.One op w s)
  fits_one = subst InstrFits is.line is.clean.fits

  own_free : Changes op → (Stacks op → ⊥) → (IsMemorySrc s → ⊥) → (Pops s 1 → ⊥) → IsPlainForm p
  own_free changes stacks memory pops = record {
    free = record {
      no_reti = λ h. subst IsReti is.piece h;
      pc = λ h. let g : WritesReg (instr.One op w s) 0 = subst (λ (i : Instr). WritesReg i 0) is.piece h in absurd (no_bad g.0 (inl (inl g.1)));
      no_sp = λ h. let g : WritesReg (instr.One op w s) 1 = subst (λ (i : Instr). WritesReg i 1) is.piece h in no_bad g.0 (inl (inr (inl g.1)));
      no_memory = λ h. let g : WritesMemory (instr.One op w s) = subst WritesMemory is.piece h in memory g.1;
      no_pop = λ h. pops (subst ReadsStack is.piece h);
      no_push = λ h. stacks (subst IsPushOrCall is.piece h);
      no_save = λ e. clean_saves o l is.clean (is.line ∙ sym is.piece ∙ e);
      sr = λ h never. let g : WritesReg (instr.One op w s) 2 = subst (λ (i : Instr). WritesReg i 2) is.piece h in no_bad g.0 (inl (inr (inr g.1)));
    };
    no_jump = λ c n e. let f : instr.One op w s ≡ instr.Jump c n = sym is.piece ∙ e in cc;
  }

at_r4 : (op : Op1) (w : Width) → Changes op → IsServed guard.Store (plain (instr.One op w (src.Indirect 4)))
at_r4 op w h = (h, refl)

stored : (op : Op1) (w : Width) (n x : ℕ) (k : Option RelKind) → Changes op → n < 16 → (n ≡ 1) ⊎ (3 ≤ n) → Good (store_guard n x k ++ plain (instr.One op w (src.Indirect 4)) ∷ [])
stored op w n x k h below register = guarded guard.Store (store_guard n x k) (plain (instr.One op w (src.Indirect 4))) [] refl (store_of n x k below register) (at_r4 op w h) none

changing_shaped : (o : Object) (l : Line) (p : Piece) (op : Op1) (w : Width) (s : Src) (size : ℕ) → IsOne o l p op w s → Changes op → (Stacks op → ⊥) → Good (changing op w p (aim_one size s p.source))
changing_shaped o l p op w (src.Reg n) size is h stacks = free p [] (own_free o l p op w (src.Reg n) is h stacks (λ m. m) (λ m. m)) none
changing_shaped o l p op w (src.Indexed n x) size is h stacks =
    let f : InstrFits (instr.One op w (src.Indexed n x)) = fits_one o l p op w (src.Indexed n x) is in stored op w n x p.source h f.0.0 (base_register n f.0.0 f.0.1)
changing_shaped o l p op w (src.Symbolic x) size is h stacks = absurd (no_symbolic o l p op w (src.Symbolic x) is x refl)
changing_shaped o l p op w (src.Absolute x) size is h stacks = by (is_static size x p.source)
  where
    by : (b : Bool) → Good (changing op w p (if b then Elsewhere else ToMemory 3 x p.source))
    by true = free p [] (own_free o l p op w (src.Absolute x) is h stacks (λ m. m) (λ m. m)) none
    by false = stored op w 3 x p.source h (omega arith) (inr (omega arith))
changing_shaped o l p op w (src.Indirect n) size is h stacks =
    let f : InstrFits (instr.One op w (src.Indirect n)) = fits_one o l p op w (src.Indirect n) is in stored op w n 0 None h f.0.0 (base_register n f.0.0 f.0.1)
changing_shaped o l p op w (src.AutoInc n) size is h stacks = absurd (no_bad o l p op w (src.AutoInc n) is h (inr tt))
changing_shaped o l p op w (src.Immediate x) size is h stacks = free p [] (own_free o l p op w (src.Immediate x) is h stacks (λ m. m) (λ m. m)) none
changing_shaped o l p op w (src.Const c) size is h stacks = free p [] (own_free o l p op w (src.Const c) is h stacks (λ m. m) (λ m. m)) none

calling_shaped : (o : Object) (l : Line) (p : Piece) (w : Width) (s : Src) → IsOne o l p Call w s → Good (calling s p)
calling_shaped o l p w s is =
    shaped_if (is_immediate s) (growth_guard ++ p ∷ []) (calling_value s p.source)
    (λ t. guarded guard.Growth growth_guard p [] refl refl (served_growth o l p Call w s is tt) none)
    (λ t. free (into_r4 Mov Wide s p.source) (growth_guard ++ plain (instr.One Call Wide (src.Immediate CALLS)) ∷ []) (free_into Mov Wide s p.source (no_pop o l p Call w s is tt))
    (guarded guard.Growth growth_guard (plain (instr.One Call Wide (src.Immediate CALLS))) [] refl refl (search rules) none))

one_shaped : (o : Object) (l : Line) (p : Piece) (op : Op1) (w : Width) (s : Src) (size : ℕ) → IsOne o l p op w s → Good (one_unit size op w s p)
one_shaped o l p Rrc w s size is = changing_shaped o l p Rrc w s size is tt (λ h. h)
one_shaped o l p Swpb w s size is = changing_shaped o l p Swpb w s size is tt (λ h. h)
one_shaped o l p Rra w s size is = changing_shaped o l p Rra w s size is tt (λ h. h)
one_shaped o l p Sxt w s size is = changing_shaped o l p Sxt w s size is tt (λ h. h)
one_shaped o l p Push w s size is = guarded guard.Growth growth_guard p [] refl refl (served_growth o l p Push w s is tt) none
one_shaped o l p Call w s size is = calling_shaped o l p w s is

-- ---- units

-- an instruction that is no jump
abbrev pub IsNoJump : Instr → Type 0
IsNoJump (instr.Two op w s d) = Unit {0}
IsNoJump (instr.One op w s) = Unit {0}
IsNoJump instr.Reti = Unit {0}
IsNoJump (instr.Jump c k) = ⊥

plain_by : (o : Object) (l : Line) (size : ℕ) (i : Instr) → IsCleanLine o l → IsNoJump i → l.instr ≡ i → Good (unit_of size l.at (own l) i)
plain_by o l size (instr.Two op w s d) c n e = two_shaped o l (own l) op w s d size (record { clean = c; line = e; piece = own_instr l.instr l.second l.third ∙ e; same = refl })
plain_by o l size (instr.One op w s) c n e = one_shaped o l (own l) op w s size (record { clean = c; line = e; piece = own_instr l.instr l.second l.third ∙ e })
plain_by o l size instr.Reti c n e = absurd (c.allowed (inl (inl (subst IsReti (sym e) tt))))
plain_by o l size (instr.Jump d k) c n e = absurd n

pub plain_unit : (o : Object) (l : Line) (size : ℕ) → IsCleanLine o l → IsNoJump l.instr → Good (unit size l)
unfolding unit
plain_unit o l size c n = plain_by o l size l.instr c n refl

-- shaped by a weaker fact, for a later version
pub shaped_on : (F G : Piece → Type 0) (v w : ℕ) → ((p : Piece) → F p → G p) → v ≤ w → (xs : List Piece) → Shaped F v xs → Shaped G w xs
shaped_on F G v w on h xs (Ends _ e) = Ends xs e
shaped_on F G v w on h xs (Free _ p ps e f rest) = Free xs p ps e (on p f) (shaped_on F G v w on h ps rest)
shaped_on F G v w on h xs (Guards _ g gs p more ps e is rest) =
    Guards xs g gs p more ps e (record { known = omega (arith, is.known, h); is = is.is; few = is.few; each = is.each }) (shaped_on F G v w on h ps rest)

pub shaped_append : (F : Piece → Type 0) (v : ℕ) (xs ys : List Piece) → Shaped F v xs → Shaped F v ys → Shaped F v (xs ++ ys)
shaped_append F v xs ys (Ends _ e) b = subst (λ (zs : List Piece). Shaped F v (zs ++ ys)) (sym e) b
shaped_append F v xs ys (Free _ p ps e f rest) b = subst (λ (zs : List Piece). Shaped F v (zs ++ ys)) (sym e) (Free (p ∷ (ps ++ ys)) p (ps ++ ys) refl f (shaped_append F v ps ys rest b))
shaped_append F v xs ys (Guards _ g gs p more ps e is rest) b =
    let all : xs ++ ys ≡ gs ++ (p ∷ (more ++ (ps ++ ys))) =
    ap (λ (zs : List Piece). zs ++ ys) e ∙ append_assoc gs (p ∷ (more ++ ps)) ys ∙ ap (λ (zs : List Piece). gs ++ (p ∷ zs)) (append_assoc more ps ys) in
    Guards (xs ++ ys) g gs p more (ps ++ ys) all is (shaped_append F v ps ys rest b)

-- ---- jumps

pub free_on : (v : ℕ) (p : Piece) (ps : List Piece) → IsFreeForm p → Shaped IsFreeForm v ps → Shaped IsFreeForm v (p ∷ ps)
free_on v p ps h rest = Free (p ∷ ps) p ps refl h rest

over_branch : (v : ℕ) (c : Cond) (x : ℕ) (k : Option RelKind) → Shaped IsFreeForm v (jump c (pos 1) ∷ jump cond.Always (pos 2) ∷ branch x k ∷ [])
over_branch v c x k =
    free_on v (jump c (pos 1)) (jump cond.Always (pos 2) ∷ branch x k ∷ []) (free_jump c (pos 1))
    (free_on v (jump cond.Always (pos 2)) (branch x k ∷ []) (free_jump cond.Always (pos 2)) (free_on v (branch x k) [] (free_branch x k).free (Ends [] refl)))

jump_shaped : (v x : ℕ) (c : Cond) → Shaped IsFreeForm v (jump_unit x c)
jump_shaped v x cond.Ne = over_branch v cond.Ne x _
jump_shaped v x cond.Eq = over_branch v cond.Eq x _
jump_shaped v x cond.Nc = over_branch v cond.Nc x _
jump_shaped v x cond.C = over_branch v cond.C x _
jump_shaped v x cond.N = over_branch v cond.N x _
jump_shaped v x cond.Ge = over_branch v cond.Ge x _
jump_shaped v x cond.L = over_branch v cond.L x _
jump_shaped v x cond.Always = free_on v (branch x _) [] (free_branch x _).free (Ends [] refl)

line_by : (o : Object) (l : Line) (size : ℕ) (i : Instr) → IsCleanLine o l → l.instr ≡ i → Shaped IsFreeForm o.version (unit_of size l.at (own l) i)
line_by o l size (instr.Two op w s d) c e =
    shaped_on IsPlainForm IsFreeForm 1 o.version (λ p h. h.free) o.form.version_least (unit_of size l.at (own l) (instr.Two op w s d)) (plain_by o l size (instr.Two op w s d) c tt e)
line_by o l size (instr.One op w s) c e =
    shaped_on IsPlainForm IsFreeForm 1 o.version (λ p h. h.free) o.form.version_least (unit_of size l.at (own l) (instr.One op w s)) (plain_by o l size (instr.One op w s) c tt e)
line_by o l size instr.Reti c e = absurd (c.allowed (inl (inl (subst IsReti (sym e) tt))))
line_by o l size (instr.Jump d k) c e = jump_shaped o.version (target_offset l.at k) d

line_shaped : (o : Object) (l : Line) (size : ℕ) → IsCleanLine o l → Shaped IsFreeForm o.version (unit size l)
unfolding unit
line_shaped o l size c = line_by o l size l.instr c refl

-- ---- stores behind a wide guard

quiet_source : (o : Object) (most : ℕ) (c : Cell) (l : Line) (h : IsBeside o most c l) → StepsNoPointer h.source
quiet_source o most c l h = quiet_of h.source
    (λ u. h.clean.free (subst UsesCheck (sym h.line) (inl u)))
    (λ p. h.clean.allowed (inr (inr (inl (subst HasForbiddenPop (sym h.line) (p, writes_so h.op h.stores, inr (inr tt)))))))

near_served : (o : Object) (r : Reach) (c : Cell) (l : Line) → IsBeside o (reach_bytes r) c l → IsServed (guard.Wide r) (beside c l)
near_served o r c l h =
    subst (IsServed (guard.Wide r)) (sym (beside_is o (reach_bytes r) c l h))
    (writes_so h.op h.stores, (difference_of c (cell l), (refl, (h.even, h.near))), refl, quiet_source o (reach_bytes r) c l h)

all_served : (o : Object) (r : Reach) (c : Cell) (ls : List Line) → AllBeside o (reach_bytes r) c ls → AllByRecursion (IsServed (guard.Wide r)) (map (beside c) ls)
all_served o r c [] h = tt
all_served o r c (l ∷ ls) h = (near_served o r c l h.0, all_served o r c ls h.1)

pub wide_shaped : (F : Piece → Type 0) (o : Object) (g : Group) → IsWideUnit o g → Shaped F o.version (unit_of_group (fields o) g)
wide_shaped F o g w =
    let all : unit_of_group (fields o) g ≡ wide_guard w.reach w.from.base w.from.index w.from.kind ++ (beside w.from g.head ∷ (map (beside w.from) g.rest ++ [])) =
    w.are ∙ ap (λ (ps : List Piece). wide_guard w.reach w.from.base w.from.index w.from.kind ++ ps) (sym (append-nil (map (beside w.from) (members g)))) in
    Guards (unit_of_group (fields o) g) (guard.Wide w.reach) (wide_guard w.reach w.from.base w.from.index w.from.kind) (beside w.from g.head) (map (beside w.from) g.rest) [] all
    (record {
      known = w.version;
      is = record { base = w.from.base; index = w.from.index; kind = w.from.kind; below = w.fits.0; register = base_register w.from.base w.fits.0 w.fits.1; are = refl };
      few = omega (arith, w.few, length-map (members g) (beside w.from));
      each = all_served o w.reach w.from (members g) w.each;
    }) (Ends [] refl)

-- ---- all units

group_shaped : (o : Object) (g : Group) → UnitIs o g → Shaped IsFreeForm o.version (unit_of_group (fields o) g)
group_shaped o g (Lone e c u) = subst (Shaped IsFreeForm o.version) (sym u) (line_shaped o g.head (static_bytes (fields o)) c)
group_shaped o g (Short e c d k same s u) =
    subst (Shaped IsFreeForm o.version) (sym u) (free_on o.version (jump d (final_offset (fields o) g.head g.head.instr)) [] (free_jump d (final_offset (fields o) g.head g.head.instr)) (Ends [] refl))
group_shaped o g (Several w) = wide_shaped IsFreeForm o g w

pub unit_shaped : (o : Object) (g : Group) → IsCleanGroup o g → Shaped IsFreeForm o.version (unit_of_group (fields o) g)
unit_shaped o g c = group_shaped o g (unit_is o g c)

pub groups_shaped : (o : Object) (gs : List Group) → AllGroups o gs → Shaped IsFreeForm o.version (pieces_of (fields o) gs)
groups_shaped o gs c = pieces_by o (Shaped IsFreeForm o.version) (Ends [] refl) (shaped_append IsFreeForm o.version) (unit_shaped o) gs c

-- the first of a guard's pieces doesn't write memory
pub guard_quiet : (g : GuardKind) (r : Piece) (y : List Piece) → IsGuard g (r ∷ y) → WritesMemory r.instr → ⊥
guard_quiet g r y is h =
    let t : HasTail (λ x. x) (r ∷ y) = guard_tail (λ x. x) g (r ∷ y) is in
    let m : WritesMemory save.instr = subst (λ (x : Piece). WritesMemory x.instr) (heads r save y t.behind t.are) h in
    m.1

-- nor does the first of shaped pieces
pub first_quiet : (v : ℕ) (p : Piece) (ps : List Piece) → Shaped IsFreeForm v (p ∷ ps) → WritesMemory p.instr → ⊥
first_quiet v p ps (Ends _ e) h = no_cut [] p ps (sym e)
first_quiet v p ps (Free _ r rs e f rest) h = f.no_memory (subst (λ (x : Piece). WritesMemory x.instr) (heads p r ps rs e) h)
first_quiet v p ps (Guards _ g [] r more rs e is rest) h = let t : HasTail (λ x. x) [] = guard_tail (λ x. x) g [] is.is in no_cut [] save t.behind t.are
first_quiet v p ps (Guards _ g (m ∷ gs) r more rs e is rest) h =
    guard_quiet g m gs is.is (subst (λ (x : Piece). WritesMemory x.instr) (heads p m ps (gs ++ (r ∷ (more ++ rs))) e) h)

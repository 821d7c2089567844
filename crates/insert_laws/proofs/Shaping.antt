-- Units of clean source instructions are shaped.
use Rattle.std.proofs.Common.{◌≡◌, ◌≢◌, ℕ, ◌≤◌, ◌<◌, nat_eq, if◌then◌else◌, Bool, true, false, ◌&&◌, List, [], ◌∷◌, ◌++◌, ◌⊎◌, inl, inr, ℤ, Option, None, refl, sym, subst, ap, ◌∙◌, arith, rules, eq-eqb}
use Rattle.std.proofs.lemmas.Bool.{cases_order, cases_lt}
use Rattle.msp_encode.specs.declared.instr.Op2.{Op2}
use Rattle.msp_encode.specs.declared.instr.Op2.TheVariants.{Mov, Add, Addc, Subc, Sub, Cmp, Dadd, Bit, Bic, Bis, Xor, And}
use Rattle.msp_encode.specs.declared.instr.Width.{Width}
use Rattle.msp_encode.specs.declared.instr.Width.TheVariants.{Wide, Byte}
use Rattle.msp_encode.specs.declared.instr.Cond.{Cond}
use Rattle.msp_encode.specs.declared.instr.Src.{Src}
use Rattle.msp_encode.specs.declared.instr.Src.TheVariants as src
use Rattle.msp_encode.specs.declared.instr.Dst.{Dst}
use Rattle.msp_encode.specs.declared.instr.Dst.TheVariants as dst
use Rattle.msp_encode.specs.declared.instr.Instr.{Instr}
use Rattle.msp_encode.specs.declared.instr.Instr.TheVariants as instr
use Rattle.msp_encode.specs.Spelling.{DstFits, InstrFits}
use Rattle.msp_encode.specs.Forms.{Writes, IsMov, IsWide, DstIs, Pops, IsReti, WritesReg, IsImmediate, writes, is_immediate}
use Rattle.code_model.specs.declared.object.Object.{Object}
use Rattle.code_model.specs.declared.parts.RelKind.{RelKind}
use Rattle.code_model.specs.declared.guards.GuardKind.{GuardKind}
use Rattle.code_model.specs.declared.guards.GuardKind.TheVariants as guard
use Rattle.code_model.specs.Guards.{most_served, least_version, StepsNoPointer, IsPopForm}
use Rattle.code_model.specs.Rules.{IsBranch, IsMemoryDst, WritesMemory, ReadsStack, IsPushOrCall}
use Rattle.insert_model.specs.declared.aim.Aim.TheVariants.{ToPc, ToSp, ToMemory, Elsewhere}
use Rattle.insert_model.specs.declared.line.Line.{Line}
use Rattle.insert_model.specs.declared.piece.Piece.{Piece}
use Rattle.insert_model.specs.Guards.{jump, branch, take_sp, pop_r4, give_sp, store_guard, pop_guard, sp_guard}
use Rattle.insert_model.specs.Units.{is_static, aim, is_popped, is_pc, is_wide_move, is_free, is_plain_pop, into_r4, through_r4, from_r4, popping, setting_sp, writing, two_unit}
use Rattle.insert_model.specs.Source.{own_piece, own}
use Rattle.insert_model.specs.Faults.{UsesCheck, SrcUsesCheck, ChangesFlags, SetsPc, HasSymbolic, IsNoPopTarget, IsMemory, HasForbiddenPop}
use Rattle.insert_laws.specs.Shapes.{saving, IsGuard, IsServed, Shaped, Ends, Free, Guards, IsFreeForm, IsCleanLine}
use Rattle.kernel_model.specs.declared.entries.TheConstants.{GOES}

-- no rule on forms asks for a guard, and it is no jump
pub record IsPlainForm (p : Piece) : Type 0 where
  pub free : IsFreeForm p
  pub no_jump : (c : Cond) (k : ℤ) → p.instr ≡ instr.Jump c k → ⊥

-- the units of what is no jump, in which each guard serves one instruction and is known to version 1
abbrev pub Good : List Piece → Type 0
Good ps = Shaped IsPlainForm 1 ps

-- ---- tests

eq_of : (a b : ℕ) → nat_eq a b ≡ true → a ≡ b
eq_of a b e = search rules

ne_of : (a b : ℕ) → nat_eq a b ≡ false → a ≢ b
ne_of a b e f = let g : nat_eq a b ≡ true = eq-eqb a b f in let h : true ≡ false = sym g ∙ e in cc

pub writes_so : (op : Op2) → writes op ≡ true → Writes op
writes_so Mov e = tt
writes_so Add e = tt
writes_so Addc e = tt
writes_so Subc e = tt
writes_so Sub e = tt
writes_so Cmp e = cc
writes_so Dadd e = tt
writes_so Bit e = cc
writes_so Bic e = tt
writes_so Bis e = tt
writes_so Xor e = tt
writes_so And e = tt

pub writes_not : (op : Op2) → writes op ≡ false → Writes op → ⊥
writes_not Mov e h = cc
writes_not Add e h = cc
writes_not Addc e h = cc
writes_not Subc e h = cc
writes_not Sub e h = cc
writes_not Cmp e h = h
writes_not Dadd e h = cc
writes_not Bit e h = h
writes_not Bic e h = cc
writes_not Bis e h = cc
writes_not Xor e h = cc
writes_not And e h = cc

pub popped_so : (s : Src) → is_popped s ≡ true → s ≡ src.AutoInc 1
popped_so (src.Reg n) e = cc
popped_so (src.Indexed n x) e = cc
popped_so (src.Symbolic x) e = cc
popped_so (src.Absolute x) e = cc
popped_so (src.Indirect n) e = cc
popped_so (src.AutoInc n) e = ap (λ (m : ℕ). src.AutoInc m) (eq_of n 1 e)
popped_so (src.Immediate x) e = cc
popped_so (src.Const c) e = cc

pub popped_not : (s : Src) → is_popped s ≡ false → Pops s 1 → ⊥
popped_not (src.Reg n) e h = h
popped_not (src.Indexed n x) e h = h
popped_not (src.Symbolic x) e h = h
popped_not (src.Absolute x) e h = h
popped_not (src.Indirect n) e h = h
popped_not (src.AutoInc n) e h = ne_of n 1 e h
popped_not (src.Immediate x) e h = h
popped_not (src.Const c) e h = h

pc_not : (d : Dst) → is_pc d ≡ false → DstIs d 0 → ⊥
pc_not (dst.Reg n) e h = ne_of n 0 e h
pc_not (dst.Indexed n x) e h = h
pc_not (dst.Symbolic x) e h = h
pc_not (dst.Absolute x) e h = h

record IsHighReg (d : Dst) : Type 0 where
  number : ℕ
  is : d ≡ dst.Reg number
  least : 6 ≤ number

free_so : (d : Dst) → is_free d ≡ true → IsHighReg d
free_so (dst.Reg n) e = record { number = n; is = refl; least = search rules }
free_so (dst.Indexed n x) e = let f : false ≡ true = e in absurd (cc)
free_so (dst.Symbolic x) e = let f : false ≡ true = e in absurd (cc)
free_so (dst.Absolute x) e = let f : false ≡ true = e in absurd (cc)

record IsWideMove (op : Op2) (w : Width) : Type 0 where
  move : op ≡ Mov
  wide : w ≡ Wide

wide_move_so : (op : Op2) (w : Width) → is_wide_move op w ≡ true → IsWideMove op w
wide_move_so Mov Wide e = record { move = refl; wide = refl }
wide_move_so Mov Byte e = let f : false ≡ true = e in absurd (cc)
wide_move_so Add w e = let f : false ≡ true = e in absurd (cc)
wide_move_so Addc w e = let f : false ≡ true = e in absurd (cc)
wide_move_so Subc w e = let f : false ≡ true = e in absurd (cc)
wide_move_so Sub w e = let f : false ≡ true = e in absurd (cc)
wide_move_so Cmp w e = let f : false ≡ true = e in absurd (cc)
wide_move_so Dadd w e = let f : false ≡ true = e in absurd (cc)
wide_move_so Bit w e = let f : false ≡ true = e in absurd (cc)
wide_move_so Bic w e = let f : false ≡ true = e in absurd (cc)
wide_move_so Bis w e = let f : false ≡ true = e in absurd (cc)
wide_move_so Xor w e = let f : false ≡ true = e in absurd (cc)
wide_move_so And w e = let f : false ≡ true = e in absurd (cc)

and_so : (a b : Bool) → (a && b) ≡ true → (a ≡ true) × (b ≡ true)
and_so true true e = (refl, refl)
and_so true false e = let f : false ≡ true = e in absurd (cc)
and_so false true e = let f : false ≡ true = e in absurd (cc)
and_so false false e = let f : false ≡ true = e in absurd (cc)

pub shaped_if : (b : Bool) (x y : List Piece) → (b ≡ true → Good x) → (b ≡ false → Good y) → Good (if b then x else y)
shaped_if true x y hx hy = hx refl
shaped_if false x y hx hy = hy refl

-- ---- shapes

pub none : Good []
none = Ends [] refl

pub free : (p : Piece) (ps : List Piece) → IsPlainForm p → Good ps → Good (p ∷ ps)
free p ps h rest = Free (p ∷ ps) p ps refl h rest

some_served : (g : GuardKind) → 1 ≤ most_served g
some_served guard.Store = omega arith
some_served (guard.Wide r) = omega arith
some_served guard.Load = omega arith
some_served guard.Growth = omega arith
some_served guard.Pop = omega arith
some_served guard.Sp = omega arith

pub guarded : (g : GuardKind) (gs : List Piece) (p : Piece) (ps : List Piece) → least_version g ≡ 1 → IsGuard g gs → IsServed g p → Good ps → Good (gs ++ p ∷ ps)
guarded g gs p ps known is h rest = Guards (gs ++ p ∷ ps) g gs p [] ps refl (record { known = omega (arith, known); is = is; few = some_served g; each = (h, tt) }) rest

r5_of : Instr → ℕ
r5_of (instr.Two op w s (dst.Reg n)) = n
r5_of _ = 99

sr_of : Instr → ℕ
sr_of (instr.Two op w (src.Reg n) d) = n
sr_of _ = 99

pub free_branch : (x : ℕ) (k : Option RelKind) → IsPlainForm (branch x k)
unfolding r5_of
free_branch x k = record {
  free = record {
    no_reti = λ h. h;
    pc = λ h. (tt, tt, tt, refl);
    no_sp = λ h. omega (arith, h.1);
    no_memory = λ h. h.1;
    no_pop = λ h. h;
    no_push = λ h. h;
    no_save = λ e. omega (arith, ap r5_of e);
    sr = λ h never. omega (arith, h.1);
  };
  no_jump = λ c n e. cc;
}

pub free_jump : (c : Cond) (k : ℤ) → IsFreeForm (jump c k)
unfolding r5_of
free_jump c k = record { no_reti = λ h. h; pc = λ h. absurd h; no_sp = λ h. h; no_memory = λ h. h; no_pop = λ h. h; no_push = λ h. h; no_save = λ e. omega (arith, ap r5_of e); sr = λ h never. h }

pub free_into : (op : Op2) (w : Width) (s : Src) (k : Option RelKind) → (Pops s 1 → ⊥) → IsPlainForm (into_r4 op w s k)
unfolding r5_of
free_into op w s k never = record {
  free = record {
    no_reti = λ h. h;
    pc = λ h. absurd (omega (arith, h.1));
    no_sp = λ h. omega (arith, h.1);
    no_memory = λ h. h.1;
    no_pop = never;
    no_push = λ h. h;
    no_save = λ e. omega (arith, ap r5_of e);
    sr = λ h never. omega (arith, h.1);
  };
  no_jump = λ c n e. cc;
}

free_from : (op : Op2) (w : Width) (d : Dst) (k : Option RelKind) → (Writes op → DstIs d 0 → ⊥) → (Writes op → DstIs d 1 → ⊥) → (Writes op → IsMemoryDst d → ⊥) → (Writes op → DstIs d 2 → ⊥) → IsPlainForm (from_r4 op w d k)
unfolding sr_of
free_from op w d k pc sp memory sr = record {
  free = record {
    no_reti = λ h. h;
    pc = λ h. absurd (pc h.0 h.1);
    no_sp = λ h. sp h.0 h.1;
    no_memory = λ h. memory h.0 h.1;
    no_pop = λ h. h;
    no_push = λ h. h;
    no_save = λ e. omega (arith, ap sr_of e);
    sr = λ h never. sr h.0 h.1;
  };
  no_jump = λ c n e. cc;
}

-- ---- facts of clean lines

pub quiet_of : (s : Src) → (SrcUsesCheck s → ⊥) → (Pops s 1 → ⊥) → StepsNoPointer s
quiet_of (src.Reg n) f h = ((λ x. x), h)
quiet_of (src.Indexed n x) f h = ((λ y. y), h)
quiet_of (src.Symbolic x) f h = ((λ y. y), h)
quiet_of (src.Absolute x) f h = ((λ y. y), h)
quiet_of (src.Indirect n) f h = ((λ x. x), h)
quiet_of (src.AutoInc n) f h = ((λ e. f (inl e)), h)
quiet_of (src.Immediate x) f h = ((λ y. y), h)
quiet_of (src.Const c) f h = ((λ y. y), h)

memory_of : (d : Dst) → IsMemoryDst d → IsMemory d
memory_of (dst.Reg n) h = h
memory_of (dst.Indexed n x) h = tt
memory_of (dst.Symbolic x) h = tt
memory_of (dst.Absolute x) h = absurd h

-- an own piece never saves the status
pub clean_saves : (o : Object) (l : Line) → IsCleanLine o l → l.instr ≡ saving → ⊥
clean_saves o l c e = c.free (subst UsesCheck (sym e) (inr (inr refl)))

-- flags that a line names are flags that its piece names
flags_own : (i : Instr) (j k : Option RelKind) → ChangesFlags i j → ChangesFlags (own_piece i j k).instr (own_piece i j k).source
flags_own (instr.Two op w (src.Reg n) d) j k h = absurd h.2
flags_own (instr.Two op w (src.Indexed n x) d) j k h = absurd h.2
flags_own (instr.Two op w (src.Symbolic x) d) j k h = absurd h.2
flags_own (instr.Two op w (src.Absolute x) d) j k h = absurd h.2
flags_own (instr.Two op w (src.Indirect n) d) j k h = absurd h.2
flags_own (instr.Two op w (src.AutoInc n) d) j k h = absurd h.2
flags_own (instr.Two op w (src.Immediate x) d) j k h = h
flags_own (instr.Two op w (src.Const c) d) j k h = h
flags_own (instr.One op w s) j k h = absurd h
flags_own instr.Reti j k h = absurd h
flags_own (instr.Jump c n) j k h = absurd h

-- ---- two operands

pub record IsTwo (o : Object) (l : Line) (p : Piece) (op : Op2) (w : Width) (s : Src) (d : Dst) : Type 0 where
  pub clean : IsCleanLine o l
  pub line : l.instr ≡ instr.Two op w s d
  pub piece : p.instr ≡ instr.Two op w s d
  pub same : p ≡ own l

module _ (o : Object) (l : Line) (p : Piece) (op : Op2) (w : Width) (s : Src) (d : Dst) (is : IsTwo o l p op w s d) where
  pub no_pop_target : Pops s 1 → Writes op → IsNoPopTarget d → ⊥
  no_pop_target pops h t = is.clean.allowed (inr (inr (inl (subst HasForbiddenPop (sym is.line) (pops, h, t)))))

  no_check_src : SrcUsesCheck s → ⊥
  no_check_src h = is.clean.free (subst UsesCheck (sym is.line) (inl h))

  no_symbolic : (x : ℕ) → d ≡ dst.Symbolic x → ⊥
  no_symbolic x e = is.clean.allowed (inr (inl (inr (inl (subst HasSymbolic (sym (is.line ∙ ap (λ (y : Dst). instr.Two op w s y) e)) (inr tt))))))

  sets_pc_sure : Writes op → DstIs d 0 → (IsMov op × IsWide w → ⊥) → ⊥
  sets_pc_sure h e never = is.clean.allowed (inl (inr (inr (subst (λ (i : Instr). WritesReg i 0 × (SetsPc i → ⊥)) (sym is.line) ((h, e), (λ m. never (m.0, m.1)))))))

  own_save : p.instr ≡ saving → ⊥
  own_save e = clean_saves o l is.clean (is.line ∙ sym is.piece ∙ e)

  own_sr : WritesReg p.instr 2 → (ChangesFlags p.instr p.source → ⊥) → ⊥
  own_sr h never =
      let g : WritesReg l.instr 2 = subst (λ (i : Instr). WritesReg i 2) (is.piece ∙ sym is.line) h in
      is.clean.allowed (inl (inr (inl (g, λ c. never (subst (λ (r : Piece). ChangesFlags r.instr r.source) (sym is.same) (flags_own l.instr l.second l.third c))))))

  -- p itself, where nothing asks for a guard
  own_free : (Pops s 1 → ⊥) → (Writes op → DstIs d 0 → IsBranch (instr.Two op w s d)) → (Writes op → DstIs d 1 → ⊥) → (Writes op → IsMemoryDst d → ⊥) → IsPlainForm p
  own_free pops pc sp memory = record {
    free = record {
      no_reti = λ h. subst IsReti is.piece h;
      pc = λ h. let g : WritesReg (instr.Two op w s d) 0 = subst (λ (i : Instr). WritesReg i 0) is.piece h in subst IsBranch (sym is.piece) (pc g.0 g.1);
      no_sp = λ h. let g : WritesReg (instr.Two op w s d) 1 = subst (λ (i : Instr). WritesReg i 1) is.piece h in sp g.0 g.1;
      no_memory = λ h. let g : WritesMemory (instr.Two op w s d) = subst WritesMemory is.piece h in memory g.0 g.1;
      no_pop = λ h. pops (subst ReadsStack is.piece h);
      no_push = λ h. subst IsPushOrCall is.piece h;
      no_save = own_save;
      sr = own_sr;
    };
    no_jump = λ c n e. let f : instr.Two op w s d ≡ instr.Jump c n = sym is.piece ∙ e in cc;
  }

  popping_shaped : s ≡ src.AutoInc 1 → Good (popping op w d p)
  popping_shaped e =
      let pops : Pops s 1 = subst (λ (x : Src). Pops x 1) (sym e) refl in
      shaped_if (is_pc d) (pop_guard ++ pop_r4 ∷ branch GOES None ∷ []) (if is_plain_pop op w d then pop_guard ++ p ∷ [] else pop_guard ++ pop_r4 ∷ from_r4 op w d p.destination ∷ [])
      (λ t. guarded guard.Pop pop_guard pop_r4 (branch GOES None ∷ []) refl refl (search rules) (free (branch GOES None) [] (free_branch GOES None) none))
      (λ other. shaped_if (is_plain_pop op w d) (pop_guard ++ p ∷ []) (pop_guard ++ pop_r4 ∷ from_r4 op w d p.destination ∷ [])
      (λ t. guarded guard.Pop pop_guard p [] refl refl (plain_pop t) none)
      (λ t. guarded guard.Pop pop_guard pop_r4 (from_r4 op w d p.destination ∷ []) refl refl (search rules)
      (free (from_r4 op w d p.destination) []
      (free_from op w d p.destination (λ h. pc_not d other) (λ h at. no_pop_target pops h (inl at)) (λ h m. no_pop_target pops h (inr (inr (memory_of d m)))) (λ h at. no_pop_target pops h (inr (inl at)))) none)))
    where
      plain_pop : is_plain_pop op w d ≡ true → IsServed guard.Pop p
      plain_pop t =
          let both : (is_wide_move op w ≡ true) × (is_free d ≡ true) = and_so (is_wide_move op w) (is_free d) t in
          let m : IsWideMove op w = wide_move_so op w both.0 in
          let r : IsHighReg d = free_so d both.1 in
          let whole : p.instr ≡ instr.Two Mov Wide (src.AutoInc 1) (dst.Reg r.number) = is.piece ∙ (λ j. instr.Two (m.move j) (m.wide j) (e j) (r.is j)) in
          let fits : InstrFits (instr.Two op w s d) = subst InstrFits is.line is.clean.fits in
          let small : DstFits (dst.Reg r.number) = subst DstFits r.is fits.1 in
          let least : 6 ≤ r.number = r.least in
          subst IsPopForm (sym whole) (tt, tt, refl, (omega arith, omega (arith, small)))

through_store : (op : Op2) (w : Width) (s : Src) (k : Option RelKind) → Writes op → StepsNoPointer s → IsServed guard.Store (through_r4 op w s k)
through_store op w s k h quiet = (h, refl, refl, quiet)

pub store_of : (n x : ℕ) (k : Option RelKind) → n < 16 → (n ≡ 1) ⊎ (3 ≤ n) → IsGuard guard.Store (store_guard n x k)
store_of n x k below register = record { base = n; index = x; kind = k; below = below; register = register; are = refl }

-- SP and R4 to R15 are bases
pub base_register : (n : ℕ) → n < 16 → (n ≢ 0) × (n ≢ 2) × (n ≢ 3) → (n ≡ 1) ⊎ (3 ≤ n)
base_register n below b = elim (cases_lt n 3) [
  | inr high ↦ inr high
  | inl low ↦ elim (cases_order n 1) [ inl same ↦ inl same | inr other ↦ elim other [ inl less ↦ absurd (b.0 (omega arith)) | inr more ↦ absurd (b.1 (omega arith)) ] ]
]

stored : (op : Op2) (w : Width) (s : Src) (p : Piece) (n x : ℕ) (k : Option RelKind) → Writes op → StepsNoPointer s → n < 16 → (n ≡ 1) ⊎ (3 ≤ n) → Good (store_guard n x k ++ through_r4 op w s p.source ∷ [])
stored op w s p n x k h quiet below register = guarded guard.Store (store_guard n x k) (through_r4 op w s p.source) [] refl (store_of n x k below register) (through_store op w s p.source h quiet) none

to_pc : (o : Object) (l : Line) (p : Piece) (op : Op2) (w : Width) (s : Src) (n : ℕ) → IsTwo o l p op w s (dst.Reg n) → Writes op → (Pops s 1 → ⊥) → n ≡ 0 → Good (writing op w s p ToPc)
to_pc o l p op w s n is h pops zero' =
    shaped_if (is_immediate s) (p ∷ []) (into_r4 Mov Wide s p.source ∷ branch GOES None ∷ [])
    (λ t. free p [] (own_free o l p op w s (dst.Reg n) is pops (λ g at. branches t) (λ g at. omega (arith, at)) (λ g m. m)) none)
    (λ t. free (into_r4 Mov Wide s p.source) (branch GOES None ∷ []) (free_into Mov Wide s p.source pops) (free (branch GOES None) [] (free_branch GOES None) none))
  where
    immediate : (s : Src) → is_immediate s ≡ true → IsImmediate s
    immediate (src.Reg n) e = let f : false ≡ true = e in absurd (cc)
    immediate (src.Indexed n x) e = let f : false ≡ true = e in absurd (cc)
    immediate (src.Symbolic x) e = let f : false ≡ true = e in absurd (cc)
    immediate (src.Absolute x) e = let f : false ≡ true = e in absurd (cc)
    immediate (src.Indirect n) e = let f : false ≡ true = e in absurd (cc)
    immediate (src.AutoInc n) e = let f : false ≡ true = e in absurd (cc)
    immediate (src.Immediate x) e = tt
    immediate (src.Const c) e = let f : false ≡ true = e in absurd (cc)

    mov_or : (op : Op2) → IsMov op ⊎ (IsMov op → ⊥)
    mov_or Mov = inl tt
    mov_or Add = inr (λ h. h)
    mov_or Addc = inr (λ h. h)
    mov_or Subc = inr (λ h. h)
    mov_or Sub = inr (λ h. h)
    mov_or Cmp = inr (λ h. h)
    mov_or Dadd = inr (λ h. h)
    mov_or Bit = inr (λ h. h)
    mov_or Bic = inr (λ h. h)
    mov_or Bis = inr (λ h. h)
    mov_or Xor = inr (λ h. h)
    mov_or And = inr (λ h. h)

    wide_or : (w : Width) → IsWide w ⊎ (IsWide w → ⊥)
    wide_or Wide = inl tt
    wide_or Byte = inr (λ h. h)

    of_width : IsMov op → is_immediate s ≡ true → (IsWide w ⊎ (IsWide w → ⊥)) → IsBranch (instr.Two op w s (dst.Reg n))
    of_width m t (inl x) = (m, x, immediate s t, zero')
    of_width m t (inr f) = absurd (sets_pc_sure o l p op w s (dst.Reg n) is h zero' (λ q. f q.1))

    of_op : is_immediate s ≡ true → (IsMov op ⊎ (IsMov op → ⊥)) → IsBranch (instr.Two op w s (dst.Reg n))
    of_op t (inl m) = of_width m t (wide_or w)
    of_op t (inr f) = absurd (sets_pc_sure o l p op w s (dst.Reg n) is h zero' (λ q. f q.0))

    branches : is_immediate s ≡ true → IsBranch (instr.Two op w s (dst.Reg n))
    branches t = of_op t (mov_or op)

to_sp : (op : Op2) (w : Width) (s : Src) (k : Option RelKind) → (Pops s 1 → ⊥) → Good (setting_sp op w s k)
to_sp op w s k pops =
    free take_sp (into_r4 op w s k ∷ (sp_guard ++ give_sp ∷ [])) (free_into Mov Wide (src.Reg 1) None (λ h. h))
    (free (into_r4 op w s k) (sp_guard ++ give_sp ∷ []) (free_into op w s k pops) (guarded guard.Sp sp_guard give_sp [] refl refl (search rules) none))

writing_shaped : (o : Object) (l : Line) (p : Piece) (op : Op2) (w : Width) (s : Src) (d : Dst) (size : ℕ) → IsTwo o l p op w s d → Writes op → (Pops s 1 → ⊥) → Good (writing op w s p (aim size d p.destination))
writing_shaped o l p op w s (dst.Reg n) size is h pops = by (nat_eq n 0) (nat_eq n 1) refl refl
  where
    by : (a b : Bool) → nat_eq n 0 ≡ a → nat_eq n 1 ≡ b → Good (writing op w s p (if a then ToPc else (if b then ToSp else Elsewhere)))
    by true b ea eb = to_pc o l p op w s n is h pops (eq_of n 0 ea)
    by false true ea eb = to_sp op w s p.source pops
    by false false ea eb = free p [] (own_free o l p op w s (dst.Reg n) is pops (λ g at. absurd (ne_of n 0 ea at)) (λ g at. ne_of n 1 eb at) (λ g m. m)) none
writing_shaped o l p op w s (dst.Indexed n x) size is h pops =
    let fits : InstrFits (instr.Two op w s (dst.Indexed n x)) = subst InstrFits is.line is.clean.fits in
    stored op w s p n x p.destination h (quiet_of s (no_check_src o l p op w s (dst.Indexed n x) is) pops) fits.1.0 (base_register n fits.1.0 fits.1.1)
writing_shaped o l p op w s (dst.Symbolic x) size is h pops = absurd (no_symbolic o l p op w s (dst.Symbolic x) is x refl)
writing_shaped o l p op w s (dst.Absolute x) size is h pops = by (is_static size x p.destination)
  where
    by : (b : Bool) → Good (writing op w s p (if b then Elsewhere else ToMemory 3 x p.destination))
    by true = free p [] (own_free o l p op w s (dst.Absolute x) is pops (λ g at. absurd at) (λ g at. at) (λ g m. m)) none
    by false = stored op w s p 3 x p.destination h (quiet_of s (no_check_src o l p op w s (dst.Absolute x) is) pops) (omega arith) (inr (omega arith))

pub two_shaped : (o : Object) (l : Line) (p : Piece) (op : Op2) (w : Width) (s : Src) (d : Dst) (size : ℕ) → IsTwo o l p op w s d → Good (two_unit size op w s d p)
two_shaped o l p op w s d size is =
    shaped_if (is_popped s) (popping op w d p) (if writes op then writing op w s p (aim size d p.destination) else p ∷ []) (λ t. popping_shaped o l p op w s d is (popped_so s t))
    (λ t. shaped_if (writes op) (writing op w s p (aim size d p.destination)) (p ∷ []) (λ u. writing_shaped o l p op w s d size is (writes_so op u) (popped_not s t))
    (λ u. free p [] (own_free o l p op w s d is (popped_not s t) (λ h at. absurd (writes_not op u h)) (λ h at. writes_not op u h) (λ h m. writes_not op u h)) none))

-- Branches and calls of pieces name starts or entries.
use Rattle.std.proofs.Common.{◌≡◌, ℕ, ◌+◌, ◌*◌, ◌≤◌, if◌then◌else◌, Bool, true, false, List, [], ◌∷◌, ◌++◌, ◌⊎◌, inl, inr, Option, None, Some, ℤ, pos, negsuc, ◌+ℤ◌, refl, sym, subst, ap, ◌∙◌, arith}
use Rattle.std.proofs.lemmas.Int.{ints}
use Rattle.msp_encode.specs.declared.instr.Op1.{Op1}
use Rattle.msp_encode.specs.declared.instr.Op1.TheVariants.{Rrc, Swpb, Rra, Sxt, Push, Call}
use Rattle.msp_encode.specs.declared.instr.Op2.{Op2}
use Rattle.msp_encode.specs.declared.instr.Op2.TheVariants.{Mov, Add, Cmp}
use Rattle.msp_encode.specs.declared.instr.Width.{Width}
use Rattle.msp_encode.specs.declared.instr.Width.TheVariants.{Wide}
use Rattle.msp_encode.specs.declared.instr.Cond.{Cond}
use Rattle.msp_encode.specs.declared.instr.Cond.TheVariants as cond
use Rattle.msp_encode.specs.declared.instr.Src.{Src}
use Rattle.msp_encode.specs.declared.instr.Src.TheVariants as src
use Rattle.msp_encode.specs.declared.instr.Dst.{Dst}
use Rattle.msp_encode.specs.declared.instr.Dst.TheVariants as dst
use Rattle.msp_encode.specs.declared.instr.Instr.{Instr}
use Rattle.msp_encode.specs.declared.instr.Instr.TheVariants as instr
use Rattle.msp_encode.specs.Forms.{DstIs, IsCall, writes, is_immediate}
use Rattle.code_model.specs.declared.object.Object.{Object}
use Rattle.kernel_model.specs.declared.map.TheConstants.{STACK_LIMIT}
use Rattle.kernel_model.specs.declared.entries.TheConstants.{CALLS, GOES, STACK_FAULT, STORE_FAULT}
use Rattle.kernel_model.specs.declared.kinds.Kind.{Kind}
use Rattle.kernel_model.specs.declared.kinds.Kind.TheVariants.{App, Module}
use Rattle.code_model.specs.declared.parts.RelKind.{RelKind}
use Rattle.code_model.specs.declared.parts.RelKind.TheVariants.{Code, Lo, Hi}
use Rattle.code_model.specs.Relocs.{HasReloc, Unrelocated}
use Rattle.code_model.specs.Fields.{fields}
use Rattle.code_model.specs.Guards.{high_word}
use Rattle.code_model.specs.Rules.{IsBranch, IsJumpEntry, IsCallEntry, IsUnitOffset, IsBranchTarget, IsCallTarget, TransferMissesTarget}
use Rattle.insert_model.specs.declared.aim.Aim.{Aim}
use Rattle.insert_model.specs.declared.aim.Aim.TheVariants.{ToPc, ToSp, ToMemory, Elsewhere}
use Rattle.insert_model.specs.declared.line.Line.{Line}
use Rattle.insert_model.specs.declared.piece.Piece.{Piece}
use Rattle.insert_model.specs.Source.{own_piece, own}
use Rattle.insert_model.specs.Groups.{Cell, cell, Group}
use Rattle.insert_model.specs.Layout.{difference_of, beside}
use Rattle.insert_model.specs.Inserted.{moved_value}
use Rattle.insert_model.specs.Faults.{IsStartOffset, IsJumpStart, IsSourceTarget, IsSourceCallee, TransferMisses, JumpMisses}
use Rattle.insert_model.specs.Guards.{base, plain, save, restore, branch, take_sp, pop_r4, give_sp, region_guard, store_guard, growth_guard, pop_guard, sp_guard}
use Rattle.insert_model.specs.Units.{static_bytes, aim, aim_one, is_popped, is_pc, is_plain_pop, into_r4, through_r4, from_r4, popping, writing, changing, calling_value, one_unit, target_offset, jump_unit, unit_of, unit}
use Rattle.insert_laws.specs.Pieces.{pieces_of, moved_dst, moved_instr}
use Rattle.insert_laws.specs.Shapes.{IsCleanLine}
use Rattle.insert_laws.proofs.UnitsFit.{own_instr}
use Rattle.insert_laws.proofs.CleanGroups.{AllGroups}
use Rattle.insert_laws.proofs.GroupUnits.{IsBeside, near_piece, beside_is, all_pieces}

-- ---- what a branch and a call may name

-- a start's offset, relocated, or an entry of the kernel
abbrev pub BranchOk : Object → Src → Option RelKind → Type 0
BranchOk o (src.Immediate x) j = ((j ≡ Some Code) × IsStartOffset o.code x) ⊎ ((j ≡ None) × IsJumpEntry o.kind x)
BranchOk o _ j = ⊥

abbrev pub CallOk : Object → Src → Option RelKind → Type 0
CallOk o (src.Immediate x) j = ((j ≡ Some Code) × IsStartOffset o.code x) ⊎ ((j ≡ None) × IsCallEntry o.kind x)
CallOk o _ j = ⊥

abbrev pub AimedInstr : Object → Instr → Option RelKind → Type 0
AimedInstr o (instr.Two op w s d) j = IsBranch (instr.Two op w s d) → (BranchOk o s j → ⊥) → ⊥
AimedInstr o (instr.One op w s) j = IsCall op → (CallOk o s j → ⊥) → ⊥
AimedInstr o instr.Reti j = Unit {0}
AimedInstr o (instr.Jump c n) j = Unit {0}

abbrev pub Aimed : Object → Piece → Type 0
Aimed o p = AimedInstr o p.instr p.source

abbrev pub AllAimed : Object → List Piece → Type 0
AllAimed o [] = Unit {0}
AllAimed o (p ∷ ps) = Aimed o p × AllAimed o ps

aimed_append : (o : Object) (xs ys : List Piece) → AllAimed o xs → AllAimed o ys → AllAimed o (xs ++ ys)
aimed_append o [] ys hx hy = hy
aimed_append o (x ∷ xs) ys hx hy = (hx.0, aimed_append o xs ys hx.1 hy)

aimed_if : (o : Object) (b : Bool) (xs ys : List Piece) → (b ≡ true → AllAimed o xs) → (b ≡ false → AllAimed o ys) → AllAimed o (if b then xs else ys)
aimed_if o true xs ys hx hy = hx refl
aimed_if o false xs ys hx hy = hy refl

pub aimed_member : (o : Object) (xs : List Piece) (p : Piece) (ys : List Piece) → AllAimed o (xs ++ p ∷ ys) → Aimed o p
aimed_member o [] p ys h = h.0
aimed_member o (x ∷ xs) p ys h = aimed_member o xs p ys h.1

-- what isn't written to PC is no branch
aside : (o : Object) (op : Op2) (w : Width) (s : Src) (n : ℕ) (j : Option RelKind) → 1 ≤ n → AimedInstr o (instr.Two op w s (dst.Reg n)) j
aside o op w s n j h b never = omega (arith, b.3, h)

stored : (o : Object) (op : Op2) (w : Width) (s : Src) (n x : ℕ) (j : Option RelKind) → AimedInstr o (instr.Two op w s (dst.Indexed n x)) j
stored o op w s n x j b never = b.3

entry : (o : Object) (x : ℕ) → (x ≡ STORE_FAULT) ⊎ ((x ≡ STACK_FAULT) ⊎ (x ≡ GOES)) → AimedInstr o (branch x None).instr None
entry o x h b never = never (inr (refl, of_kind o.kind h))
  where
    of_kind : (k : Kind) → (x ≡ STORE_FAULT) ⊎ ((x ≡ STACK_FAULT) ⊎ (x ≡ GOES)) → IsJumpEntry k x
    of_kind App e = e
    of_kind Module (inl e) = inl e
    of_kind Module (inr (inl e)) = inr (inl e)
    of_kind Module (inr (inr e)) = inr (inr (inl e))

reg : (o : Object) (op : Op2) (w : Width) (s : Src) (n : ℕ) (j : Option RelKind) → 1 ≤ n → AimedInstr o (instr.Two op w s (dst.Reg n)) j
reg o op w s n j h = aside o op w s n j h

saves : (o : Object) → Aimed o save
saves o = reg o Mov Wide (src.Reg 2) 5 None (omega arith)

restores : (o : Object) → Aimed o restore
restores o = reg o Mov Wide (src.Reg 5) 2 None (omega arith)

region_aimed : (o : Object) (n x high : ℕ) (k : Option RelKind) → AllAimed o (region_guard n x high k)
region_aimed o n x high k = (
  saves o,
  (
    reg o Mov Wide (base n) 4 None (omega arith),
    (
      reg o Add Wide (src.Immediate x) 4 k (omega arith),
      (
        reg o Cmp Wide (src.Immediate 0) 4 (Some Lo) (omega arith),
        (tt, (reg o Cmp Wide (src.Immediate high) 4 (Some Hi) (omega arith), (tt, (entry o STORE_FAULT (inl refl), (restores o, tt))))),
      ),
    ),
  ),
)

growth_aimed : (o : Object) → AllAimed o growth_guard
growth_aimed o = (saves o, (reg o Cmp Wide (src.Absolute STACK_LIMIT) 1 None (omega arith), (tt, (entry o STACK_FAULT (inr (inl refl)), (restores o, tt)))))

pop_aimed : (o : Object) → AllAimed o pop_guard
pop_aimed o = (saves o, ((λ b never. b.0), (tt, (entry o STACK_FAULT (inr (inl refl)), (restores o, tt)))))

sp_aimed : (o : Object) → AllAimed o sp_guard
sp_aimed o = (saves o, (reg o Cmp Wide (src.Absolute STACK_LIMIT) 4 None (omega arith), (tt, ((λ b never. b.0), (tt, (entry o STACK_FAULT (inr (inl refl)), (restores o, tt)))))))

own_aimed : (o : Object) (p : Piece) (i : Instr) → p.instr ≡ i → AimedInstr o i p.source → AllAimed o (p ∷ [])
own_aimed o p i e h = (subst (λ (j : Instr). AimedInstr o j p.source) (sym e) h, tt)

-- ---- the targets of a clean line

module _ (o : Object) (l : Line) (clean : IsCleanLine o l) where
  branch_own : (op : Op2) (w : Width) (s : Src) (d : Dst) → l.instr ≡ instr.Two op w s d → AimedInstr o (instr.Two op w s d) (own l).source
  branch_own op w (src.Reg n) d e b never = b.2
  branch_own op w (src.Indexed n x) d e b never = b.2
  branch_own op w (src.Symbolic x) d e b never = b.2
  branch_own op w (src.Absolute x) d e b never = b.2
  branch_own op w (src.Indirect n) d e b never = b.2
  branch_own op w (src.AutoInc n) d e b never = b.2
  branch_own op w (src.Const c) d e b never = b.2
  branch_own op w (src.Immediate x) d e b never =
      let own_kind : (own l).source ≡ l.second = ap (λ (i : Instr). (own_piece i l.second l.third).source) e in
      let misses : IsSourceTarget o x l.second → ⊥ = λ t. elim t [
        | inl h ↦ never (inl (own_kind ∙ h.0, h.1))
        | inr h ↦ never (inr (own_kind ∙ h.0, h.1.0))
      ] in
      clean.lands (inr (inl (subst (TransferMisses o l) (sym e) ((b.0, b.1, b.3), misses))))

  call_own : (op : Op1) (w : Width) (s : Src) → l.instr ≡ instr.One op w s → is_immediate s ≡ true → AimedInstr o (instr.One op w s) (own l).source
  call_own op w (src.Reg n) e t = let f : false ≡ true = t in absurd (cc)
  call_own op w (src.Indexed n x) e t = let f : false ≡ true = t in absurd (cc)
  call_own op w (src.Symbolic x) e t = let f : false ≡ true = t in absurd (cc)
  call_own op w (src.Absolute x) e t = let f : false ≡ true = t in absurd (cc)
  call_own op w (src.Indirect n) e t = let f : false ≡ true = t in absurd (cc)
  call_own op w (src.AutoInc n) e t = let f : false ≡ true = t in absurd (cc)
  call_own op w (src.Const c) e t = let f : false ≡ true = t in absurd (cc)
  call_own op w (src.Immediate x) e t = λ b never.
      let own_kind : (own l).source ≡ l.second = ap (λ (i : Instr). (own_piece i l.second l.third).source) e in
      let misses : IsSourceCallee o x l.second → ⊥ = λ t. elim t [
        | inl h ↦ never (inl (own_kind ∙ h.0, h.1))
        | inr h ↦ never (inr (own_kind ∙ h.0, h.1.0))
      ] in
      clean.lands (inr (inl (subst (TransferMisses o l) (sym e) (b, misses))))

  pub target_is : (k : ℤ) (t : ℕ) → pos t ≡ pos (l.at + 1) +ℤ k → target_offset l.at k ≡ 2 * t
  target_is (pos m) t e = omega (arith, ints, e)
  target_is (negsuc m) t e = omega (arith, ints, e)

  jump_own : (c : Cond) (k : ℤ) → l.instr ≡ instr.Jump c k → AimedInstr o (branch (target_offset l.at k) (Some Code)).instr (Some Code)
  unfolding IsJumpStart IsStartOffset
  jump_own c k e b never = clean.lands (inl (subst (JumpMisses o.code l.at) (sym e) (λ s. never (inl (refl, (s.0, s.1, target_is k s.0 s.2))))))

-- ---- units

popping_aimed : (o : Object) (op : Op2) (w : Width) (s : Src) (d : Dst) (p : Piece) → p.instr ≡ instr.Two op w s d → AimedInstr o (instr.Two op w s d) p.source → AllAimed o (popping op w d p)
popping_aimed o op w s d p e h =
    aimed_if o (is_pc d) (pop_guard ++ pop_r4 ∷ branch GOES None ∷ []) (if is_plain_pop op w d then pop_guard ++ p ∷ [] else pop_guard ++ pop_r4 ∷ from_r4 op w d p.destination ∷ [])
    (λ t. aimed_append o pop_guard (pop_r4 ∷ branch GOES None ∷ []) (pop_aimed o) (reg o Mov Wide (src.AutoInc 1) 4 None (omega arith), (entry o GOES (inr (inr refl)), tt)))
    (λ f. aimed_if o (is_plain_pop op w d) (pop_guard ++ p ∷ []) (pop_guard ++ pop_r4 ∷ from_r4 op w d p.destination ∷ []) (λ t. aimed_append o pop_guard (p ∷ []) (pop_aimed o) (own_aimed o p (instr.Two op w s d) e h))
    (λ g. aimed_append o pop_guard (pop_r4 ∷ from_r4 op w d p.destination ∷ []) (pop_aimed o) (reg o Mov Wide (src.AutoInc 1) 4 None (omega arith), ((λ b never. b.2), tt))))

writing_aimed : (o : Object) (op : Op2) (w : Width) (s : Src) (d : Dst) (p : Piece) (a : Aim) → p.instr ≡ instr.Two op w s d → AimedInstr o (instr.Two op w s d) p.source → AllAimed o (writing op w s p a)
writing_aimed o op w s d p ToPc e h =
    aimed_if o (is_immediate s) (p ∷ []) (into_r4 Mov Wide s p.source ∷ branch GOES None ∷ []) (λ t. own_aimed o p (instr.Two op w s d) e h) (λ f. (reg o Mov Wide s 4 p.source (omega arith), (entry o GOES (inr (inr refl)), tt)))
writing_aimed o op w s d p ToSp e h =
    aimed_append o (take_sp ∷ into_r4 op w s p.source ∷ sp_guard) (give_sp ∷ []) (reg o Mov Wide (src.Reg 1) 4 None (omega arith), (reg o op w s 4 p.source (omega arith), sp_aimed o)) (reg o Mov Wide (src.Reg 4) 1 None (omega arith), tt)
writing_aimed o op w s d p (ToMemory n x k) e h = aimed_append o (store_guard n x k) (through_r4 op w s p.source ∷ []) (region_aimed o n x 0 k) (stored o op w s 4 0 p.source, tt)
writing_aimed o op w s d p Elsewhere e h = own_aimed o p (instr.Two op w s d) e h

changing_aimed : (o : Object) (op : Op1) (w : Width) (s : Src) (p : Piece) (a : Aim) → (IsCall op → ⊥) → p.instr ≡ instr.One op w s → AllAimed o (changing op w p a)
changing_aimed o op w s p ToPc other e = own_aimed o p (instr.One op w s) e (λ b never. other b)
changing_aimed o op w s p ToSp other e = own_aimed o p (instr.One op w s) e (λ b never. other b)
changing_aimed o op w s p (ToMemory n x k) other e = aimed_append o (store_guard n x k) (plain (instr.One op w (src.Indirect 4)) ∷ []) (region_aimed o n x 0 k) ((λ b never. other b), tt)
changing_aimed o op w s p Elsewhere other e = own_aimed o p (instr.One op w s) e (λ b never. other b)

calls_kernel : (o : Object) → AimedInstr o (instr.One Call Wide (src.Immediate CALLS)) None
calls_kernel o b never = never (inr (refl, of_kind o.kind))
  where
    of_kind : (k : Kind) → IsCallEntry k CALLS
    of_kind App = (omega arith, omega arith, refl)
    of_kind Module = inl refl

one_aimed : (o : Object) (size : ℕ) (op : Op1) (w : Width) (s : Src) (p : Piece) → p.instr ≡ instr.One op w s → (is_immediate s ≡ true → AimedInstr o (instr.One op w s) p.source) → AllAimed o (one_unit size op w s p)
one_aimed o size Rrc w s p e h = changing_aimed o Rrc w s p (aim_one size s p.source) (λ c. c) e
one_aimed o size Swpb w s p e h = changing_aimed o Swpb w s p (aim_one size s p.source) (λ c. c) e
one_aimed o size Rra w s p e h = changing_aimed o Rra w s p (aim_one size s p.source) (λ c. c) e
one_aimed o size Sxt w s p e h = changing_aimed o Sxt w s p (aim_one size s p.source) (λ c. c) e
one_aimed o size Push w s p e h = aimed_append o growth_guard (p ∷ []) (growth_aimed o) (own_aimed o p (instr.One Push w s) e (λ b never. b))
one_aimed o size Call w s p e h =
    aimed_if o (is_immediate s) (growth_guard ++ p ∷ []) (calling_value s p.source) (λ t. aimed_append o growth_guard (p ∷ []) (growth_aimed o) (own_aimed o p (instr.One Call w s) e (h t)))
    (λ f. aimed_append o (into_r4 Mov Wide s p.source ∷ growth_guard) (plain (instr.One Call Wide (src.Immediate CALLS)) ∷ []) (reg o Mov Wide s 4 p.source (omega arith), growth_aimed o) (calls_kernel o, tt))

jump_aimed : (o : Object) (x : ℕ) (c : Cond) → AimedInstr o (branch x (Some Code)).instr (Some Code) → AllAimed o (jump_unit x c)
jump_aimed o x cond.Ne h = (tt, (tt, (h, tt)))
jump_aimed o x cond.Eq h = (tt, (tt, (h, tt)))
jump_aimed o x cond.Nc h = (tt, (tt, (h, tt)))
jump_aimed o x cond.C h = (tt, (tt, (h, tt)))
jump_aimed o x cond.N h = (tt, (tt, (h, tt)))
jump_aimed o x cond.Ge h = (tt, (tt, (h, tt)))
jump_aimed o x cond.L h = (tt, (tt, (h, tt)))
jump_aimed o x cond.Always h = (h, tt)

instr_aimed : (o : Object) (l : Line) (size : ℕ) (i : Instr) → IsCleanLine o l → l.instr ≡ i → AllAimed o (unit_of size l.at (own l) i)
instr_aimed o l size (instr.Two op w s d) c e =
    let p : Piece = own l in
    let f : p.instr ≡ instr.Two op w s d = own_instr l.instr l.second l.third ∙ e in
    let h : AimedInstr o (instr.Two op w s d) p.source = branch_own o l c op w s d e in
    aimed_if o (is_popped s) (popping op w d p) (if writes op then writing op w s p (aim size d p.destination) else p ∷ []) (λ t. popping_aimed o op w s d p f h)
    (λ t. aimed_if o (writes op) (writing op w s p (aim size d p.destination)) (p ∷ []) (λ u. writing_aimed o op w s d p (aim size d p.destination) f h) (λ u. own_aimed o p (instr.Two op w s d) f h))
instr_aimed o l size (instr.One op w s) c e = one_aimed o size op w s (own l) (own_instr l.instr l.second l.third ∙ e) (call_own o l c op w s e)
instr_aimed o l size instr.Reti c e = own_aimed o (own l) instr.Reti (own_instr l.instr l.second l.third ∙ e) tt
instr_aimed o l size (instr.Jump d k) c e = jump_aimed o (target_offset l.at k) d (jump_own o l c d k e)

unit_aimed : (o : Object) (l : Line) (size : ℕ) → IsCleanLine o l → AllAimed o (unit size l)
unfolding unit
unit_aimed o l size c = instr_aimed o l size l.instr c refl

near_aimed : (o : Object) (most : ℕ) (c : Cell) (l : Line) → IsBeside o most c l → AllAimed o (beside c l ∷ [])
near_aimed o most c l h =
    let p : AllAimed o (near_piece h.op h.width h.source (difference_of c (cell l)) (own l).source ∷ []) = (stored o h.op h.width h.source 4 (difference_of c (cell l)) (own l).source, tt) in
    subst (λ (r : Piece). AllAimed o (r ∷ [])) (sym (beside_is o most c l h)) p

pub pieces_aimed : (o : Object) (gs : List Group) → AllGroups o gs → AllAimed o (pieces_of (fields o) gs)
pieces_aimed o gs c =
    all_pieces o (AllAimed o) tt (aimed_append o) (λ l h. unit_aimed o l (static_bytes (fields o)) h) (λ l d k e s. (tt, tt)) (λ r d f. region_aimed o d.base d.index (high_word r) d.kind) (near_aimed o) gs c

-- ---- as it stands

module _ (o q : Object) (go : ℕ → ℕ) (at : ℕ) (kind : q.kind ≡ o.kind) (units : (x : ℕ) → IsStartOffset o.code x → IsUnitOffset q (go x)) where
  branch_lands : (x : ℕ) (j : Option RelKind) → (j ≡ Some Code → HasReloc q.relocs (at + 1) Code) → (j ≡ None → Unrelocated q.relocs (at + 1)) → BranchOk o (src.Immediate x) j → IsBranchTarget q (at + 1) (src.Immediate (moved_value go x j))
  branch_lands x j some none (inl h) = inl (some h.0, subst (λ (y : Option RelKind). IsUnitOffset q (moved_value go x y)) (sym h.0) (units x h.1))
  branch_lands x j some none (inr h) = inr (none h.0, subst (λ (y : Option RelKind). IsJumpEntry q.kind (moved_value go x y)) (sym h.0) (subst (λ (k : Kind). IsJumpEntry k x) (sym kind) h.1))

  call_lands : (x : ℕ) (j : Option RelKind) → (j ≡ Some Code → HasReloc q.relocs (at + 1) Code) → (j ≡ None → Unrelocated q.relocs (at + 1)) → CallOk o (src.Immediate x) j → IsCallTarget q (at + 1) (src.Immediate (moved_value go x j))
  call_lands x j some none (inl h) = inl (some h.0, subst (λ (y : Option RelKind). IsUnitOffset q (moved_value go x y)) (sym h.0) (units x h.1))
  call_lands x j some none (inr h) = inr (none h.0, subst (λ (y : Option RelKind). IsCallEntry q.kind (moved_value go x y)) (sym h.0) (subst (λ (k : Kind). IsCallEntry k x) (sym kind) h.1))

  pub aimed_stands : (i : Instr) (j k : Option RelKind) → AimedInstr o i j
      → ((op : Op2) (w : Width) (x : ℕ) (d : Dst) → i ≡ instr.Two op w (src.Immediate x) d → (j ≡ Some Code → HasReloc q.relocs (at + 1) Code) × (j ≡ None → Unrelocated q.relocs (at + 1)))
      → ((op : Op1) (w : Width) (x : ℕ) → i ≡ instr.One op w (src.Immediate x) → (j ≡ Some Code → HasReloc q.relocs (at + 1) Code) × (j ≡ None → Unrelocated q.relocs (at + 1))) → TransferMissesTarget q at (moved_instr go j k i) → ⊥
  aimed_stands (instr.Two op w (src.Reg n) d) j k t two one h = h.0.2
  aimed_stands (instr.Two op w (src.Indexed n x) d) j k t two one h = h.0.2
  aimed_stands (instr.Two op w (src.Symbolic x) d) j k t two one h = h.0.2
  aimed_stands (instr.Two op w (src.Absolute x) d) j k t two one h = h.0.2
  aimed_stands (instr.Two op w (src.Indirect n) d) j k t two one h = h.0.2
  aimed_stands (instr.Two op w (src.AutoInc n) d) j k t two one h = h.0.2
  aimed_stands (instr.Two op w (src.Const c) d) j k t two one h = h.0.2
  aimed_stands (instr.Two op w (src.Immediate x) d) j k t two one h =
      let r = two op w x d refl in t (h.0.0, h.0.1, tt, to_pc d h.0.3) (λ b. h.1 (branch_lands x j r.0 r.1 b))
    where
      to_pc : (e : Dst) → DstIs (moved_dst go k e) 0 → DstIs e 0
      to_pc (dst.Reg n) g = g
      to_pc (dst.Indexed n y) g = g
      to_pc (dst.Symbolic y) g = g
      to_pc (dst.Absolute y) g = g
  aimed_stands (instr.One op w (src.Immediate x)) j k t two one h = let r = one op w x refl in t h.0 (λ b. h.1 (call_lands x j r.0 r.1 b))
  aimed_stands (instr.One op w (src.Reg n)) j k t two one h = t h.0 (λ b. b)
  aimed_stands (instr.One op w (src.Indexed n x)) j k t two one h = t h.0 (λ b. b)
  aimed_stands (instr.One op w (src.Symbolic x)) j k t two one h = t h.0 (λ b. b)
  aimed_stands (instr.One op w (src.Absolute x)) j k t two one h = t h.0 (λ b. b)
  aimed_stands (instr.One op w (src.Indirect n)) j k t two one h = t h.0 (λ b. b)
  aimed_stands (instr.One op w (src.AutoInc n)) j k t two one h = t h.0 (λ b. b)
  aimed_stands (instr.One op w (src.Const c)) j k t two one h = t h.0 (λ b. b)
  aimed_stands instr.Reti j k t two one h = h
  aimed_stands (instr.Jump c n) j k t two one h = h

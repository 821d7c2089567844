-- Operations of two operands at a unit start.
use Rattle.std.proofs.Common.{◌≡◌, ℕ, zero, suc, ◌+◌, ◌<◌, ◌⊎◌, false, List, [], ◌∷◌, length, get_or, drop, refl, sym, ap, ◌∙◌, subst, inl, inr, arith}
use Rattle.std.proofs.lemmas.Bool.{cases_eq}
use Rattle.std.proofs.lemmas.List.{length-drop, length-append, get_or-drop}
use Rattle.msp_encode.specs.declared.instr.Op2.{Op2}
use Rattle.msp_encode.specs.declared.instr.Op2.TheVariants.{Mov, Add, Addc, Subc, Sub, Cmp, Dadd, Bit, Bic, Bis, Xor, And}
use Rattle.msp_encode.specs.declared.instr.Width.{Width}
use Rattle.msp_encode.specs.declared.instr.Width.TheVariants.{Wide, Byte}
use Rattle.msp_encode.specs.declared.instr.Cg.{Cg}
use Rattle.msp_encode.specs.declared.instr.Cg.TheVariants.{Zero, One, Two, Four, Eight, AllOnes}
use Rattle.msp_encode.specs.declared.instr.Src.{Src}
use Rattle.msp_encode.specs.declared.instr.Src.TheVariants as src
use Rattle.msp_encode.specs.declared.instr.Dst.{Dst}
use Rattle.msp_encode.specs.declared.instr.Dst.TheVariants as dst
use Rattle.msp_encode.specs.declared.instr.Instr.{Instr}
use Rattle.msp_encode.specs.declared.instr.Instr.TheVariants as instr
use Rattle.msp_encode.specs.Spelling.{src_words, dst_words}
use Rattle.msp_encode.specs.Forms.{Writes, IsMov, IsWide, IsImmediate, IsBisOrBic, const_value, writes}
use Rattle.code_model.specs.declared.object.Object.{Object}
use Rattle.code_model.specs.declared.guards.GuardKind.TheVariants as guard
use Rattle.code_model.specs.declared.rules.Rule.TheVariants as rule
use Rattle.code_model.specs.Starts.{Stands}
use Rattle.code_model.specs.Relocs.{Unrelocated}
use Rattle.code_model.specs.Guards.{UnitStart}
use Rattle.code_model.specs.Rules.{IsBranch, NamesFlags, ChangesFlags}
use Rattle.code_model.specs.Statics.{InStatic}
use Rattle.code_laws.proofs.Standing.{same_instr}
use Rattle.machine_laws.specs.Plain.{IsCalm, Plain, Tests, ToReg, ToData, SetsBits, ClearsBits, SetsConst, ClearsConst, IsMask}
use Rattle.machine_laws.proofs.Masks.{mask-by_and}
use Rattle.confinement_laws.specs.Given.{CheckerLaws}
use Rattle.load_model.specs.Domains.{Domain}
use Rattle.node_model.specs.Placed.{StandsIn, CodeStands}
use Rattle.confinement_laws.proofs.Lines.{save}
use Rattle.confinement_laws.proofs.Placing.{placed, placed_src, size-is, operand-word}
use Rattle.code_laws.proofs.Begins.{stands_first}
use Rattle.confinement_laws.proofs.Guarding.{own-first}
use Rattle.code_laws.proofs.Deciding.{Decided, stable, all-three, both, static-or-not, unrelocated-or-not}
use Rattle.confinement_laws.proofs.Fetching.{words_in}
use Rattle.confinement_laws.proofs.Passing.{writes-true, writes-or-not, calm-src}
use Rattle.confinement_laws.proofs.Lines.{begins-one, save-first}
use Rattle.confinement_laws.proofs.Stacking.{mov-is, wide-is, mov-form}
use Rattle.confinement_laws.proofs.Units.{Sort, IsPlain, Branches, Jumps, FreeUnit, breaks-at, not-guarded, no-store, unit-free, data-word, dst-below, dst-is_word, one-sort}

-- ---- branches

mov-or-not : (op : Op2) → Decided (IsMov op)
mov-or-not Mov = inl tt
mov-or-not _ = inr (λ h. h)

wide-or-not : (w : Width) → Decided (IsWide w)
wide-or-not Wide = inl tt
wide-or-not Byte = inr (λ h. h)

immediate-or-not : (s : Src) → Decided (IsImmediate s)
immediate-or-not (src.Immediate x) = inl tt
immediate-or-not _ = inr (λ h. h)

branches-or-not : (op : Op2) (w : Width) (s : Src) → Decided (IsBranch (instr.Two op w s (dst.Reg 0)))
branches-or-not op w s = from (all-three (mov-or-not op) (wide-or-not w) (immediate-or-not s))
  where
    from : Decided (IsMov op × IsWide w × IsImmediate s) → Decided (IsBranch (instr.Two op w s (dst.Reg 0)))
    from (inl h) = inl (h.0, h.1, h.2, refl)
    from (inr n) = inr (λ h. n (h.0, h.1, h.2))

branch-sort : CheckerLaws → (d : Domain) (m : List ℕ) (at : ℕ) (op : Op2) (w : Width) (s : Src) (n : ℕ) → FreeUnit d m at (instr.Two op w s (dst.Reg 0)) n → IsBranch (instr.Two op w s (dst.Reg 0)) → Sort d m at (instr.Two op w s (dst.Reg 0))
branch-sort laws d m at op w (src.Immediate x) n u b =
    let e = mov-form op w (src.Immediate x) (src.Immediate x) (dst.Reg 0) (dst.Reg 0) (mov-is op b.0) (wide-is w b.1) refl refl in
    let target = laws.branches d.object d.units at n op w (src.Immediate x) (dst.Reg 0) u.all.accepted u.start u.stands u.free b in
    subst (Sort d m at) (sym e) (Branches x target)
branch-sort laws d m at op w (src.Reg k) n u b = absurd b.2
branch-sort laws d m at op w (src.Indexed k x) n u b = absurd b.2
branch-sort laws d m at op w (src.Symbolic x) n u b = absurd b.2
branch-sort laws d m at op w (src.Absolute x) n u b = absurd b.2
branch-sort laws d m at op w (src.Indirect k) n u b = absurd b.2
branch-sort laws d m at op w (src.AutoInc k) n u b = absurd b.2
branch-sort laws d m at op w (src.Const k) n u b = absurd b.2

to_pc-sort : CheckerLaws → (d : Domain) (m : List ℕ) (at : ℕ) (op : Op2) (w : Width) (s : Src) (n : ℕ) → FreeUnit d m at (instr.Two op w s (dst.Reg 0)) n → Writes op → Sort d m at (instr.Two op w s (dst.Reg 0))
to_pc-sort laws d m at op w s n u h = branch-sort laws d m at op w s n u
    (stable (branches-or-not op w s) (λ no_branch. u.all.accepted.none at rule.Pc (u.free, breaks-at d m at (instr.Two op w s (dst.Reg 0)) n u rule.Pc ((h, refl), no_branch))))

-- ---- flags

bis-or-not : (op : Op2) → Decided (IsBisOrBic op)
bis-or-not Bic = inl tt
bis-or-not Bis = inl tt
bis-or-not _ = inr (λ h. h)

names-or-not : (o : Object) (at : ℕ) (s : Src) → Decided (NamesFlags o at s)
names-or-not o at (src.Const c) = cases_eq _ 0
names-or-not o at (src.Immediate x) = both (unrelocated-or-not o.relocs (at + 1)) (cases_eq _ 0)
names-or-not o at (src.Reg k) = inr (λ h. h)
names-or-not o at (src.Indexed k x) = inr (λ h. h)
names-or-not o at (src.Symbolic x) = inr (λ h. h)
names-or-not o at (src.Absolute x) = inr (λ h. h)
names-or-not o at (src.Indirect k) = inr (λ h. h)
names-or-not o at (src.AutoInc k) = inr (λ h. h)

flags-or-not : (o : Object) (at : ℕ) (op : Op2) (w : Width) (s : Src) → Decided (ChangesFlags o at (instr.Two op w s (dst.Reg 2)))
flags-or-not o at op w s = all-three (bis-or-not op) (wide-or-not w) (names-or-not o at s)

const-small : (k : Cg) → const_value k < 65536
const-small Zero = omega arith
const-small One = omega arith
const-small Two = omega arith
const-small Four = omega arith
const-small Eight = omega arith
const-small AllOnes = omega arith

-- an unrelocated immediate of an operation of two operands in memory
pub immediate-same : (d : Domain) (m : List ℕ) (at : ℕ) (op : Op2) (w : Width) (x : ℕ) (e : Dst) (n : ℕ) → CodeStands d m → at < length d.object.code → Stands d.object.code at (instr.Two op w (src.Immediate x) e) n
    → Unrelocated d.object.relocs (at + 1) → words_in d m at 1 ≡ x
immediate-same d m at op w x e n c l h u =
    c.plain (at + 1) (omega (arith, size-is (drop at d.object.code) (instr.Two op w (src.Immediate x) e) n h, length-append (x ∷ []) (dst_words e), h.0, length-drop at d.object.code)) u
    ∙ operand-word d.object.code at (instr.Two op w (src.Immediate x) e) n 0 h (omega (arith, length-append (x ∷ []) (dst_words e)))

pub immediate-code : (code : List ℕ) (at : ℕ) (op : Op2) (w : Width) (x : ℕ) (e : Dst) (n : ℕ) → Stands code at (instr.Two op w (src.Immediate x) e) n → get_or code (at + 1) 0 ≡ x
immediate-code code at op w x e n h = operand-word code at (instr.Two op w (src.Immediate x) e) n 0 h (omega (arith, length-append (x ∷ []) (dst_words e)))

immediate-mask : (d : Domain) (m : List ℕ) (at : ℕ) (op : Op2) (w : Width) (x n : ℕ) → FreeUnit d m at (instr.Two op w (src.Immediate x) (dst.Reg 2)) n → NamesFlags d.object at (src.Immediate x) → IsMask (words_in d m at 1)
immediate-mask d m at op w x n u f =
    let small = d.object.form.words_small (at + 1) in
    subst IsMask (sym (immediate-same d m at op w x (dst.Reg 2) n u.all.code u.start.below u.stands f.0))
    (mask-by_and x (omega (arith, small, immediate-code d.object.code at op w x (dst.Reg 2) n u.stands)) f.1)

flags-plain : (d : Domain) (m : List ℕ) (at : ℕ) (op : Op2) (w : Width) (s : Src) (n : ℕ) → FreeUnit d m at (instr.Two op w s (dst.Reg 2)) n → IsBisOrBic op → IsWide w → NamesFlags d.object at s
    → Plain d.lo d.hi (placed (instr.Two op w s (dst.Reg 2)) (words_in d m at))
flags-plain d m at Bis Wide (src.Const k) n u b v f = SetsConst k (mask-by_and (const_value k) (const-small k) f)
flags-plain d m at Bic Wide (src.Const k) n u b v f = ClearsConst k (mask-by_and (const_value k) (const-small k) f)
flags-plain d m at Bis Wide (src.Immediate x) n u b v f = SetsBits (words_in d m at 1) (immediate-mask d m at Bis Wide x n u f)
flags-plain d m at Bic Wide (src.Immediate x) n u b v f = ClearsBits (words_in d m at 1) (immediate-mask d m at Bic Wide x n u f)
flags-plain d m at op Byte s n u b v f = absurd v
flags-plain d m at Mov Wide s n u b v f = absurd b
flags-plain d m at Add Wide s n u b v f = absurd b
flags-plain d m at Addc Wide s n u b v f = absurd b
flags-plain d m at Subc Wide s n u b v f = absurd b
flags-plain d m at Sub Wide s n u b v f = absurd b
flags-plain d m at Cmp Wide s n u b v f = absurd b
flags-plain d m at Dadd Wide s n u b v f = absurd b
flags-plain d m at Bit Wide s n u b v f = absurd b
flags-plain d m at Xor Wide s n u b v f = absurd b
flags-plain d m at And Wide s n u b v f = absurd b
flags-plain d m at Bis Wide (src.Reg k) n u b v f = absurd f
flags-plain d m at Bis Wide (src.Indexed k x) n u b v f = absurd f
flags-plain d m at Bis Wide (src.Symbolic x) n u b v f = absurd f
flags-plain d m at Bis Wide (src.Absolute x) n u b v f = absurd f
flags-plain d m at Bis Wide (src.Indirect k) n u b v f = absurd f
flags-plain d m at Bis Wide (src.AutoInc k) n u b v f = absurd f
flags-plain d m at Bic Wide (src.Reg k) n u b v f = absurd f
flags-plain d m at Bic Wide (src.Indexed k x) n u b v f = absurd f
flags-plain d m at Bic Wide (src.Symbolic x) n u b v f = absurd f
flags-plain d m at Bic Wide (src.Absolute x) n u b v f = absurd f
flags-plain d m at Bic Wide (src.Indirect k) n u b v f = absurd f
flags-plain d m at Bic Wide (src.AutoInc k) n u b v f = absurd f

to_sr-sort : (d : Domain) (m : List ℕ) (at : ℕ) (op : Op2) (w : Width) (s : Src) (n : ℕ) → FreeUnit d m at (instr.Two op w s (dst.Reg 2)) n → Writes op → Sort d m at (instr.Two op w s (dst.Reg 2))
to_sr-sort d m at op w s n u h =
    let f = stable (flags-or-not d.object at op w s) (λ other. u.all.accepted.none at rule.Sr (u.free, breaks-at d m at (instr.Two op w s (dst.Reg 2)) n u rule.Sr ((h, refl), other))) in
    IsPlain _ (flags-plain d m at op w s n u f.0 f.1 f.2)

-- ---- all

two-calm : (d : Domain) (m : List ℕ) (at : ℕ) (op : Op2) (w : Width) (s : Src) (e : Dst) (n : ℕ) → FreeUnit d m at (instr.Two op w s e) n → IsCalm (placed_src s (words_in d m at 1))
two-calm d m at op w s e n u =
    calm-src s (words_in d m at 1) _ _ (stands_first d.object.code at (instr.Two op w s e) n u.stands).source (omega arith)
    (λ p. u.all.accepted.none at rule.Pop (u.free, breaks-at d m at (instr.Two op w s e) n u rule.Pop (p, not-guarded d m at (instr.Two op w s e) n u guard.Pop tt)))

writes-sort : CheckerLaws → (d : Domain) (m : List ℕ) (at : ℕ) (op : Op2) (w : Width) (s : Src) (e : Dst) (n : ℕ) → FreeUnit d m at (instr.Two op w s e) n → Writes op → Sort d m at (instr.Two op w s e)
writes-sort laws d m at op w s (dst.Reg zero) n u h = to_pc-sort laws d m at op w s n u h
writes-sort laws d m at op w s (dst.Reg (suc zero)) n u h = absurd (u.all.accepted.none at rule.Sp (u.free, breaks-at d m at _ n u rule.Sp ((h, refl), not-guarded d m at _ n u guard.Sp tt)))
writes-sort laws d m at op w s (dst.Reg (suc (suc zero))) n u h = to_sr-sort d m at op w s n u h
writes-sort laws d m at op w s (dst.Reg (suc (suc (suc k)))) n u h =
    let f = stands_first d.object.code at (instr.Two op w s (dst.Reg (suc (suc (suc k))))) n u.stands in
    IsPlain _ (ToReg op w (placed_src s (words_in d m at 1)) (suc (suc (suc k))) (writes-true op h) (two-calm d m at op w s _ n u) (omega arith) (omega (arith, f.destination.0)))
writes-sort laws d m at op w s (dst.Absolute x) n u h =
    let a : at + 1 + length (src_words s) ≡ at + (1 + length (src_words s)) = omega arith in
    let in_static = stable (static-or-not d.object (at + 1 + length (src_words s)) x) (λ wild. u.all.accepted.none at rule.Static (u.free, breaks-at d m at (instr.Two op w s (dst.Absolute x)) n u rule.Static (h, wild))) in
    let b = data-word d m (at + (1 + length (src_words s))) x u.all (dst-below d.object.code at op w s x n u.start.below u.stands) (dst-is_word d.object.code at op w s x n u.stands)
    (subst (λ (k : ℕ). InStatic d.object k x) a in_static) in
    IsPlain _ (ToData op w (placed_src s (words_in d m at 1)) (words_in d m at (1 + length (src_words s))) (writes-true op h) (two-calm d m at op w s _ n u) b.0 b.1)
writes-sort laws d m at op w s (dst.Indexed k x) n u h = absurd (u.all.accepted.none at rule.Store (u.free, breaks-at d m at _ n u rule.Store ((h, tt), no-store d m at _ n u)))
writes-sort laws d m at op w s (dst.Symbolic x) n u h = absurd (u.all.accepted.none at rule.Store (u.free, breaks-at d m at _ n u rule.Store ((h, tt), no-store d m at _ n u)))

two-sort : CheckerLaws → (d : Domain) (m : List ℕ) (at : ℕ) (op : Op2) (w : Width) (s : Src) (e : Dst) (n : ℕ) → FreeUnit d m at (instr.Two op w s e) n → Writes op ⊎ (writes op ≡ false) → Sort d m at (instr.Two op w s e)
two-sort laws d m at op w s e n u (inl h) = writes-sort laws d m at op w s e n u h
two-sort laws d m at op w s e n u (inr h) = IsPlain _ (Tests op w _ _ h (two-calm d m at op w s e n u))

pub free-sort : CheckerLaws → (d : Domain) (m : List ℕ) (at : ℕ) (i : Instr) (n : ℕ) → FreeUnit d m at i n → Sort d m at i
free-sort laws d m at (instr.Two op w s e) n u = two-sort laws d m at op w s e n u (writes-or-not op)
free-sort laws d m at (instr.One op w s) n u = one-sort d m at op w s n u
free-sort laws d m at instr.Reti n u = absurd (u.all.accepted.none at rule.Reti (breaks-at d m at instr.Reti n u rule.Reti tt))
free-sort laws d m at (instr.Jump c k) n u = Jumps c k (laws.jumps d.object d.units at n c k u.all.accepted u.start u.stands u.free)

save-sort : (d : Domain) (m : List ℕ) (at : ℕ) → Sort d m at save
save-sort d m at = IsPlain save (ToReg Mov Wide (src.Reg 2) 5 refl tt (omega arith) (omega arith))

pub sort-of : CheckerLaws → (d : Domain) (m : List ℕ) (at : ℕ) (i : Instr) (n : ℕ) → StandsIn d m → UnitStart d.object at → Stands d.object.code at i n → Sort d m at i
sort-of laws d m at i n s u h = from (cases_eq (get_or d.object.code at 0) 16901)
  where
    from : Decided (get_or d.object.code at 0 ≡ 16901) → Sort d m at i
    from (inl e) =
        let a : at + 0 ≡ at = omega arith in
        let sv = begins-one (drop at d.object.code) save 16901 (omega (arith, length-drop at d.object.code, u.0.below)) (get_or-drop at d.object.code 0 0 ∙ (ap (λ (x : ℕ). get_or d.object.code x 0) a ∙ e)) save-first refl in
        subst (Sort d m at) (sym (same_instr i save (drop at d.object.code) n 1 h sv)) (save-sort d m at)
    from (inr other) = free-sort laws d m at i n (unit-free d m at i n s u h (λ w. other (own-first d.object at u w)))

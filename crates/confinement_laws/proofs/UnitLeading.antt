-- A step at a unit start leads to a safe context.
use Rattle.std.proofs.Common.{◌≡◌, ℕ, ◌+◌, ◌*◌, ◌%◌, ◌<◌, true, false, List, [], length, drop, refl, sym, ap, ◌∙◌, subst, inl, inr, arith}
use Rattle.std.specs.Prelude.{ℤ, pos, negsuc, ◌+ℤ◌}
use Rattle.std.specs.List.{AllByRecursion}
use Rattle.std.proofs.lemmas.Bool.{false≢true}
use Rattle.std.proofs.lemmas.Int.{ints}
use Rattle.std.proofs.lemmas.List.{length-drop}
use Rattle.msp_encode.specs.declared.instr.Op2.{Op2}
use Rattle.msp_encode.specs.declared.instr.Op2.TheVariants.{Mov}
use Rattle.msp_encode.specs.declared.instr.Width.TheVariants.{Wide}
use Rattle.msp_encode.specs.declared.instr.Src.TheVariants as src
use Rattle.msp_encode.specs.declared.instr.Dst.TheVariants as dst
use Rattle.msp_encode.specs.declared.instr.Cond.{Cond}
use Rattle.msp_encode.specs.declared.instr.Cond.TheVariants.{Always}
use Rattle.msp_encode.specs.declared.instr.Instr.{Instr}
use Rattle.msp_encode.specs.declared.instr.Instr.TheVariants as instr
use Rattle.msp_encode.specs.Forms.{IsMov, IsJmp, IsAlways, writes}
use Rattle.kernel_model.specs.declared.map.TheConstants.{CODE_POOL_END}
use Rattle.kernel_model.specs.declared.kinds.Kind.{Kind}
use Rattle.kernel_model.specs.declared.kinds.Kind.TheVariants.{App, Module}
use Rattle.code_model.specs.declared.parts.RelKind.TheVariants.{Code}
use Rattle.code_model.specs.declared.guards.GuardKind.{GuardKind}
use Rattle.code_model.specs.declared.guards.GuardKind.TheVariants as guard
use Rattle.code_model.specs.Starts.{Stands, Start}
use Rattle.code_model.specs.Guards.{Guarded, UnitStart}
use Rattle.code_model.specs.Rules.{IsBranchTarget, IsJumpTarget, IsUnitOffset, IsJumpEntry, IsBranch}
use Rattle.machine_model.specs.Context.{reg}
use Rattle.machine_model.specs.Does.{does, holds, target, Effect}
use Rattle.machine_laws.specs.Steady.{IsStatus, IsSteady}
use Rattle.machine_laws.specs.Places.{TakesAddress, ComparesLimit, ComparesTop, ComparesNewLow}
use Rattle.machine_laws.specs.Plain as plain
use Rattle.machine_laws.specs.Plain.{Plain, Tests, ToReg, ToData, SetsBits, ClearsBits, SetsConst, ClearsConst, ChangesReg, ChangesData, PlainLaw, BranchLaw, JumpLaw, SaveLaw, Saves, Goes}
use Rattle.confinement_laws.specs.Given.{CheckerLaws}
use Rattle.load_model.specs.Domains.{Domain}
use Rattle.node_model.specs.Placed.{StandsIn, address, bits}
use Rattle.node_model.specs.Good.{IsSomewhere, Within, Jumped, bounds}
use Rattle.node_model.specs.Instructions.{Inside, Leads, UnitLaw}
use Rattle.confinement_laws.proofs.Lines.{save}
use Rattle.confinement_laws.proofs.Placing.{placed, size-is}
use Rattle.code_laws.proofs.DangerLemmas.{BeginsAt}
use Rattle.confinement_laws.proofs.Guarding.{GoesOn, ToUnit, IntoGuard, goes-on}
use Rattle.code_laws.proofs.Deciding.{back-target}
use Rattle.confinement_laws.proofs.Fetching.{words_in, fetched-is, runs-on}
use Rattle.confinement_laws.proofs.Leading.{are-bounds}
use Rattle.confinement_laws.proofs.Passing.{region-leads, silent-leads}
use Rattle.confinement_laws.proofs.Units.{Sort, IsPlain, Branches, Jumps}
use Rattle.confinement_laws.proofs.UnitSorts.{sort-of, immediate-same, immediate-code}

-- ---- plain instructions are no jumps and no branches

plain-no_jump : (lo hi : ℕ) (i : Instr) → Plain lo hi i → IsJmp i → ⊥
plain-no_jump lo hi i (Tests op w s d h c) j = j
plain-no_jump lo hi i (ToReg op w s n h c l u) j = j
plain-no_jump lo hi i (ToData op w s x h c l u) j = j
plain-no_jump lo hi i (SetsBits x h) j = j
plain-no_jump lo hi i (ClearsBits x h) j = j
plain-no_jump lo hi i (SetsConst k h) j = j
plain-no_jump lo hi i (ClearsConst k h) j = j
plain-no_jump lo hi i (ChangesReg op w n h l u) j = j
plain-no_jump lo hi i (ChangesData op w x h l u) j = j

mov-writes : (op : Op2) → IsMov op → writes op ≡ true
mov-writes Mov h = refl
mov-writes _ h = absurd h

plain-no_branch : (lo hi : ℕ) (i : Instr) → Plain lo hi i → IsBranch i → ⊥
plain-no_branch lo hi i (Tests op w s d h c) b = false≢true (sym h ∙ mov-writes op b.0)
plain-no_branch lo hi i (ToReg op w s n h c l u) b = omega (arith, b.3)
plain-no_branch lo hi i (ToData op w s x h c l u) b = b.3
plain-no_branch lo hi i (SetsBits x h) b = b.0
plain-no_branch lo hi i (ClearsBits x h) b = b.0
plain-no_branch lo hi i (SetsConst k h) b = b.0
plain-no_branch lo hi i (ClearsConst k h) b = b.0
plain-no_branch lo hi i (ChangesReg op w n h l u) b = b
plain-no_branch lo hi i (ChangesData op w x h l u) b = b

jump-placed : (i : Instr) (f : ℕ → ℕ) → IsJmp i → IsJmp (placed i f)
jump-placed (instr.Two op w s d) f j = j
jump-placed (instr.One op w s) f j = j
jump-placed instr.Reti f j = j
jump-placed (instr.Jump c k) f j = j

branch-placed : (i : Instr) (f : ℕ → ℕ) → IsBranch i → IsBranch (placed i f)
branch-placed (instr.Two op w (src.Immediate x) (dst.Reg n)) f b = b
branch-placed (instr.Two op w (src.Immediate x) (dst.Indexed n y)) f b = absurd b.3
branch-placed (instr.Two op w (src.Immediate x) (dst.Symbolic y)) f b = absurd b.3
branch-placed (instr.Two op w (src.Immediate x) (dst.Absolute y)) f b = absurd b.3
branch-placed (instr.Two op w (src.Reg k) d) f b = absurd b.2
branch-placed (instr.Two op w (src.Indexed k x) d) f b = absurd b.2
branch-placed (instr.Two op w (src.Symbolic x) d) f b = absurd b.2
branch-placed (instr.Two op w (src.Absolute x) d) f b = absurd b.2
branch-placed (instr.Two op w (src.Indirect k) d) f b = absurd b.2
branch-placed (instr.Two op w (src.AutoInc k) d) f b = absurd b.2
branch-placed (instr.Two op w (src.Const k) d) f b = absurd b.2
branch-placed (instr.One op w s) f b = b
branch-placed instr.Reti f b = b
branch-placed (instr.Jump c k) f b = b

-- ---- into a guard

silent-all : (d : Domain) (low top : ℕ) (ws : List (ℕ × ℕ)) → ws ≡ [] → AllByRecursion (Inside d low top) ws
silent-all d low top ws e = subst (AllByRecursion (Inside d low top)) (sym e) tt

into-place : (d : Domain) (low top at next : ℕ) (e : Effect) (guarded : ℕ) (k : GuardKind) (by : Guarded d.object guarded k) → by.first ≡ at → reg e.context 0 ≡ address d (at + 1) → IsStatus (bits d) (reg e.context 5)
    → IsSomewhere d (bounds d low top) e.context
into-place d low top at next e guarded guard.Store by first pc t =
    Within TakesAddress record { guarded = guarded; kind = guard.Store; of = tt; by = by; pc = omega (arith, pc, first); saved = λ _. t; known = tt; same = λ r load has s. absurd has }
into-place d low top at next e guarded (guard.Wide r) by first pc t =
    Within TakesAddress record { guarded = guarded; kind = (guard.Wide r); of = tt; by = by; pc = omega (arith, pc, first); saved = λ _. t; known = tt; same = λ r load has s. absurd has }
into-place d low top at next e guarded guard.Load by first pc t =
    Within TakesAddress record { guarded = guarded; kind = guard.Load; of = tt; by = by; pc = omega (arith, pc, first); saved = λ _. t; known = tt; same = λ r load has s. absurd has }
into-place d low top at next e guarded guard.Growth by first pc t =
    Within ComparesLimit record { guarded = guarded; kind = guard.Growth; of = refl; by = by; pc = omega (arith, pc, first); saved = λ _. t; known = tt; same = λ r load has s. absurd has }
into-place d low top at next e guarded guard.Pop by first pc t =
    Within ComparesTop record { guarded = guarded; kind = guard.Pop; of = refl; by = by; pc = omega (arith, pc, first); saved = λ _. t; known = tt; same = λ r load has s. absurd has }
into-place d low top at next e guarded guard.Sp by first pc t =
    Within ComparesNewLow record { guarded = guarded; kind = guard.Sp; of = refl; by = by; pc = omega (arith, pc, first); saved = λ _. t; known = tt; same = λ r load has s. absurd has }

save-leads : (d : Domain) (low top : ℕ) (m c : List ℕ) (at next : ℕ) (e : Effect) → BeginsAt d.object at → IsSteady (bits d) low top c → Saves (bounds d low top) (bits d) next c e → next ≡ address d (at + 1) → Leads d low top e
save-leads d low top m c at next e b st s a = record {
  good = record { steady = s.steady; somewhere = into-place d low top at next e b.guarded b.kind b.by b.first (s.pc ∙ a) (subst (IsStatus (bits d)) (sym s.saved) st.status) };
  inside = silent-all d low top e.written s.silent;
}

plain-leads : CheckerLaws → PlainLaw → SaveLaw → (d : Domain) (low top : ℕ) (m c : List ℕ) (at : ℕ) (i : Instr) (n : ℕ) → StandsIn d m → IsSteady (bits d) low top c → UnitStart d.object at → Stands d.object.code at i n
    → reg c 0 ≡ address d at → Plain d.lo d.hi (placed i (words_in d m at)) → Leads d low top (does m c (placed i (words_in d m at)) n)
plain-leads laws plain-passes save-saves d low top m c at i n s st u h here p = on (goes-on laws.first d.object at n i u h start (s.accepted.each (at + n) start))
  where
    start : Start d.object.code (at + n)
    start = runs-on d.object d.units at i n s.accepted u.0 h
        (λ j. plain-no_jump d.lo d.hi (placed i (words_in d m at)) p (jump-placed i (words_in d m at) j))
        (λ b. plain-no_branch d.lo d.hi (placed i (words_in d m at)) p (branch-placed i (words_in d m at) b))

    fits : reg c 0 + 2 * n < 65536
    fits = omega (arith, here, s.placed.code_high, start.below)

    on : GoesOn d.object at n i → Leads d low top (does m c (placed i (words_in d m at)) n)
    on (ToUnit v) = region-leads d low top (reg c 0 + 2 * n) (at + n) (does m c (placed i (words_in d m at)) n)
        (plain-passes (bounds d low top) (bits d) m c (placed i (words_in d m at)) n (are-bounds d low top s.placed) s.memory st fits p) (omega (arith, here)) v
    on (IntoGuard b e f) = subst (λ (x : Instr). Leads d low top (does m c (placed x (words_in d m at)) n)) (sym e)
        (save-leads d low top m c at (reg c 0 + 2 * n) (does m c save n) b st (save-saves (bounds d low top) (bits d) m c n st fits) (omega (arith, here, f)))

-- ---- branches

entry-even : (k : Kind) (x : ℕ) → IsJumpEntry k x → (x % 2 ≡ 0) × (x < 65536)
entry-even App x (inl e) = (omega (arith, e), omega (arith, e))
entry-even App x (inr (inl e)) = (omega (arith, e), omega (arith, e))
entry-even App x (inr (inr e)) = (omega (arith, e), omega (arith, e))
entry-even Module x (inl e) = (omega (arith, e), omega (arith, e))
entry-even Module x (inr (inl e)) = (omega (arith, e), omega (arith, e))
entry-even Module x (inr (inr (inl e))) = (omega (arith, e), omega (arith, e))
entry-even Module x (inr (inr (inr e))) = (omega (arith, e), omega (arith, e))

branch-leads : BranchLaw → (d : Domain) (low top : ℕ) (m c : List ℕ) (at x n k : ℕ) → StandsIn d m → IsSteady (bits d) low top c → Start d.object.code at → Stands d.object.code at (instr.Two Mov Wide (src.Immediate x) (dst.Reg 0)) k
    → IsBranchTarget d.object (at + 1) (src.Immediate x) → Leads d low top (does m c (instr.Two Mov Wide (src.Immediate (words_in d m at 1)) (dst.Reg 0)) n)
unfolding IsUnitOffset
branch-leads branch-goes d low top m c at x n k s st b h (inl t) =
    let word = immediate-code d.object.code at Mov Wide x (dst.Reg 0) k h in
    let below : at + 1 < length d.object.code = omega (arith, size-is (drop at d.object.code) (instr.Two Mov Wide (src.Immediate x) (dst.Reg 0)) k h, h.0, length-drop at d.object.code, b.below) in
    let a : words_in d m at 1 ≡ address d t.1.0 = s.code.moved (at + 1) Code below t.0 ∙ omega (arith, word, t.1.2, s.placed.code_high, t.1.1.0.below) in
    silent-leads d low top (words_in d m at 1) t.1.0 _
    (branch-goes (bounds d low top) (bits d) m c (words_in d m at 1) n st (omega (arith, a, s.placed.code_even)) (omega (arith, a, s.placed.code_high, t.1.1.0.below))) a t.1.1
branch-leads branch-goes d low top m c at x n k s st b h (inr t) =
    let a : words_in d m at 1 ≡ x = immediate-same d m at Mov Wide x (dst.Reg 0) k s.code b.below h t.0 in
    let e = entry-even d.object.kind x t.1 in
    let r = branch-goes (bounds d low top) (bits d) m c (words_in d m at 1) n st (omega (arith, a, e.0)) (omega (arith, a, e.1)) in
    record {
      good = record { steady = r.steady; somewhere = Jumped (subst (IsJumpEntry d.object.kind) (sym (r.pc ∙ a)) t.1) };
      inside = silent-all d low top _ r.silent;
    }

-- ---- jumps

target-address : (d : Domain) (at t : ℕ) (k : ℤ) → d.code_lo + 2 * at < CODE_POOL_END → d.code_lo + 2 * t < CODE_POOL_END → pos t ≡ pos (at + 1) +ℤ k → target (address d at) k ≡ address d t
target-address d at t (pos j) h l e = forward (omega (arith, ints))
  where
    forward : t ≡ at + 1 + j → target (address d at) (pos j) ≡ address d t
    forward f = omega arith
target-address d at t (negsuc j) h l e = backward (back-target at j t e)
  where
    backward : t + j ≡ at → target (address d at) (negsuc j) ≡ address d t
    backward f = omega arith

not-always : (c : Cond) (sr : ℕ) → holds c sr ≡ false → IsAlways c → ⊥
not-always Always sr h a = false≢true (sym h)
not-always _ sr h a = a

jump-not_save : (c : Cond) (k : ℤ) → instr.Jump c k ≡ save → ⊥
jump-not_save c k e = cc

jump-leads : CheckerLaws → JumpLaw → (d : Domain) (low top : ℕ) (m c : List ℕ) (at : ℕ) (q : Cond) (k : ℤ) (n j : ℕ) → StandsIn d m → IsSteady (bits d) low top c → UnitStart d.object at → Stands d.object.code at (instr.Jump q k) j
    → reg c 0 ≡ address d at → IsJumpTarget d.object at k → Leads d low top (does m c (instr.Jump q k) n)
unfolding IsJumpTarget
jump-leads laws jump-goes d low top m c at q k n j s st u h here t = from (jump-goes (bounds d low top) (bits d) m c q k n st (omega (arith, here, s.placed.code_high, u.0.below)))
  where
    one : j ≡ 1
    one = omega (arith, size-is (drop at d.object.code) (instr.Jump q k) j h)

    on : (e : Effect) → Goes (reg c 0 + 2) (bounds d low top) (bits d) e → GoesOn d.object at j (instr.Jump q k) → Leads d low top e
    on e g (ToUnit v) = silent-leads d low top (reg c 0 + 2) (at + j) e g (omega (arith, here, one)) v
    on e g (IntoGuard b same size) = absurd (jump-not_save q k same)

    from : plain.Jumps q k (bounds d low top) (bits d) c (does m c (instr.Jump q k) n) → Leads d low top (does m c (instr.Jump q k) n)
    from (plain.Passed untaken g) =
        let start = runs-on d.object d.units at (instr.Jump q k) j s.accepted u.0 h (not-always q (reg c 2) untaken) (λ b. b) in
        on (does m c (instr.Jump q k) n) g (goes-on laws.first d.object at j (instr.Jump q k) u h start (s.accepted.each (at + j) start))
    from (plain.Taken g) =
        silent-leads d low top (target (reg c 0) k) t.0 (does m c (instr.Jump q k) n) g
        (ap (λ (x : ℕ). target x k) here ∙ target-address d at t.0 k (omega (arith, s.placed.code_high, u.0.below)) (omega (arith, s.placed.code_high, t.1.0.below)) t.2) t.1

-- ---- all

sort-leads : CheckerLaws → PlainLaw → BranchLaw → JumpLaw → SaveLaw → (d : Domain) (low top : ℕ) (m c : List ℕ) (at : ℕ) (i : Instr) (n : ℕ) → StandsIn d m → IsSteady (bits d) low top c → UnitStart d.object at
    → Stands d.object.code at i n → reg c 0 ≡ address d at → Sort d m at i → Leads d low top (does m c (placed i (words_in d m at)) n)
sort-leads laws plain-passes branch-goes jump-goes save-saves d low top m c at i n s st u h here (IsPlain j p) = plain-leads laws plain-passes save-saves d low top m c at j n s st u h here p
sort-leads laws plain-passes branch-goes jump-goes save-saves d low top m c at i n s st u h here (Branches x t) = branch-leads branch-goes d low top m c at x n n s st u.0 h t
sort-leads laws plain-passes branch-goes jump-goes save-saves d low top m c at i n s st u h here (Jumps q k t) = jump-leads laws jump-goes d low top m c at q k n n s st u h here t

pub unit-leads : CheckerLaws → PlainLaw → BranchLaw → JumpLaw → SaveLaw → UnitLaw
unit-leads laws plain-passes branch-goes jump-goes save-saves d low top m c at i n s st u here f =
    let sp = s.accepted.spelled at u.0 in
    let same = fetched-is d m at sp.instr i sp.words n (reg c 0) s u.0 sp.stands here f in
    subst (λ (x : ℕ). Leads d low top (does m c i x)) (sym same.1) (subst (λ (x : Instr). Leads d low top (does m c x sp.words)) (sym same.0)
    (sort-leads laws plain-passes branch-goes jump-goes save-saves d low top m c at sp.instr sp.words s st u sp.stands here (sort-of laws d m at sp.instr sp.words s u sp.stands)))

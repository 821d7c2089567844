-- What stands at a unit start.
use Rattle.std.proofs.Common.{◌≡◌, ℕ, zero, suc, ◌+◌, ◌<◌, ◌≤◌, List, [], ◌∷◌, length, get_or, drop, refl, sym, subst, ◌∙◌, arith}
use Rattle.std.specs.Prelude.{ℤ}
use Rattle.std.proofs.lemmas.List.{length-drop, length-append, get_or_at}
use Rattle.msp_encode.specs.declared.instr.Op2.{Op2}
use Rattle.msp_encode.specs.declared.instr.Op2.TheVariants.{Mov}
use Rattle.msp_encode.specs.declared.instr.Op1.{Op1}
use Rattle.msp_encode.specs.declared.instr.Op1.TheVariants.{Rrc, Swpb, Rra, Sxt, Push, Call}
use Rattle.msp_encode.specs.declared.instr.Width.{Width}
use Rattle.msp_encode.specs.declared.instr.Width.TheVariants.{Wide}
use Rattle.msp_encode.specs.declared.instr.Src.{Src}
use Rattle.msp_encode.specs.declared.instr.Src.TheVariants as src
use Rattle.msp_encode.specs.declared.instr.Dst.TheVariants as dst
use Rattle.msp_encode.specs.declared.instr.Cond.{Cond}
use Rattle.msp_encode.specs.declared.instr.Instr.{Instr}
use Rattle.msp_encode.specs.declared.instr.Instr.TheVariants as instr
use Rattle.msp_encode.specs.Spelling.{src_words, TakesImmediate, TakesConst}
use Rattle.msp_encode.specs.Forms.{Changes}
use Rattle.code_model.specs.declared.parts.RelKind.TheVariants.{Data}
use Rattle.code_model.specs.declared.guards.GuardKind.{GuardKind}
use Rattle.code_model.specs.declared.guards.GuardKind.TheVariants as guard
use Rattle.code_model.specs.declared.rules.Rule.{Rule}
use Rattle.code_model.specs.declared.rules.Rule.TheVariants as rule
use Rattle.code_model.specs.Starts.{Stands, Start}
use Rattle.code_model.specs.Guards.{Guarded, Own, UnitStart}
use Rattle.code_model.specs.Rules.{IsBranchTarget, IsJumpTarget, KeepsStores, IsGuardedStore, Breaks, BreaksAt}
use Rattle.code_model.specs.Statics.{InStatic}
use Rattle.machine_model.specs.Memory.{word_at}
use Rattle.machine_laws.specs.Plain.{Plain, ChangesReg, ChangesData}
use Rattle.load_model.specs.Domains.{Domain}
use Rattle.node_model.specs.Placed.{StandsIn, address}
use Rattle.confinement_laws.proofs.Placing.{placed, size-is, operand-word}
use Rattle.code_laws.proofs.Begins.{stands_first}
use Rattle.code_laws.proofs.DangerLemmas.{guarded_interior}
use Rattle.code_laws.proofs.Deciding.{stable, static-or-not}
use Rattle.code_laws.proofs.Runs.{first_before}
use Rattle.confinement_laws.specs.Given.{CheckerLaws}
use Rattle.confinement_laws.proofs.Fetching.{words_in}
use Rattle.confinement_laws.proofs.Passing.{changes-true}

-- what stands at a unit start: an instruction that isn't dangerous, a branch, or a jump
pub data Sort (d : Domain) (m : List ℕ) (at : ℕ) : Instr → Type 0 where
  IsPlain : (i : Instr) → Plain d.lo d.hi (placed i (words_in d m at)) → Sort d m at i
  Branches : (x : ℕ) → IsBranchTarget d.object (at + 1) (src.Immediate x) → Sort d m at (instr.Two Mov Wide (src.Immediate x) (dst.Reg 0))
  Jumps : (c : Cond) (k : ℤ) → IsJumpTarget d.object at k → Sort d m at (instr.Jump c k)

-- the guards that a rule asks for
abbrev pub IsAsked : GuardKind → Type 0
IsAsked guard.Load = ⊥
IsAsked _ = Unit {0}

-- a start of accepted code that is none of a guard's own and that no guard which a rule asks for serves, and what stands there
pub record FreeUnit (d : Domain) (m : List ℕ) (at : ℕ) (i : Instr) (n : ℕ) : Type 0 where
  pub all : StandsIn d m
  pub start : Start d.object.code at
  pub bare : (g : GuardKind) → IsAsked g → Guarded d.object at g → ⊥
  pub stands : Stands d.object.code at i n
  pub free : Own d.object at → ⊥

pub breaks-at : (d : Domain) (m : List ℕ) (at : ℕ) (i : Instr) (n : ℕ) → FreeUnit d m at i n → (r : Rule) → Breaks r d.object at i n → BreaksAt r d.object at
breaks-at d m at i n u r b = record { start = u.start; instr = i; words = n; stands = u.stands; breaks = b }

pub not-guarded : (d : Domain) (m : List ℕ) (at : ℕ) (i : Instr) (n : ℕ) → FreeUnit d m at i n → (g : GuardKind) → IsAsked g → Guarded d.object at g → ⊥
not-guarded d m at i n u g a h = u.bare g a h

keeps-asked : (g : GuardKind) → KeepsStores g → IsAsked g
keeps-asked guard.Store h = tt
keeps-asked (guard.Wide r) h = tt
keeps-asked guard.Load h = absurd h
keeps-asked guard.Growth h = absurd h
keeps-asked guard.Pop h = absurd h
keeps-asked guard.Sp h = absurd h

pub no-store : (d : Domain) (m : List ℕ) (at : ℕ) (i : Instr) (n : ℕ) → FreeUnit d m at i n → IsGuardedStore d.object at → ⊥
unfolding IsGuardedStore
no-store d m at i n u (g, (keeps, h)) = u.bare g (keeps-asked g keeps) h

-- a unit start that is none of a guard's own
pub unit-free : (d : Domain) (m : List ℕ) (at : ℕ) (i : Instr) (n : ℕ) → StandsIn d m → UnitStart d.object at → Stands d.object.code at i n → (Own d.object at → ⊥) → FreeUnit d m at i n
unit-free d m at i n s u h free = record { all = s; start = u.0; bare = λ g a j. u.1 (guarded_interior d.object at g j); stands = h; free = free }

-- the instruction of a load guard
pub loaded-free : CheckerLaws → (d : Domain) (m : List ℕ) (at : ℕ) (h : Guarded d.object at guard.Load) → StandsIn d m → FreeUnit d m at h.instr h.words
loaded-free laws d m at h s = record { all = s; start = h.start; bare = bare; stands = h.stands; free = laws.free d.object at guard.Load h }
  where
    bare : (g : GuardKind) → IsAsked g → Guarded d.object at g → ⊥
    bare g a j =
        let one = laws.apart d.object at at at guard.Load g h j (omega (arith, first_before d.object at guard.Load h)) (omega arith) (omega (arith, first_before d.object at g j)) (omega arith) in
        subst IsAsked (sym one.kind) a

-- ---- words of operands

-- a word with DATA below the static part's size lies in the region
pub data-word : (d : Domain) (m : List ℕ) (at x : ℕ) → StandsIn d m → at < length d.object.code → get_or d.object.code at 0 ≡ x → InStatic d.object at x
    → (d.lo ≤ word_at m (address d at)) × (word_at m (address d at) < d.hi)
data-word d m at x s l e h =
    let v = s.code.moved at Data l h.0 in
    (omega (arith, v, e, h.1, s.placed.statics, s.placed.hi_high), omega (arith, v, e, h.1, s.placed.statics, s.placed.hi_high))

-- the place of a destination's word, and the word there
pub dst-below : (code : List ℕ) (at : ℕ) (op : Op2) (w : Width) (s : Src) (x n : ℕ) → at < length code → Stands code at (instr.Two op w s (dst.Absolute x)) n → at + (1 + length (src_words s)) < length code
dst-below code at op w s x n l h = omega (arith, size-is (drop at code) (instr.Two op w s (dst.Absolute x)) n h, length-append (src_words s) (x ∷ []), h.0, length-drop at code)

pub dst-is_word : (code : List ℕ) (at : ℕ) (op : Op2) (w : Width) (s : Src) (x n : ℕ) → Stands code at (instr.Two op w s (dst.Absolute x)) n → get_or code (at + (1 + length (src_words s))) 0 ≡ x
dst-is_word code at op w s x n h =
    operand-word code at (instr.Two op w s (dst.Absolute x)) n (length (src_words s)) h (omega (arith, length-append (src_words s) (x ∷ []))) ∙ get_or_at (src_words s) x [] 0 (length (src_words s)) refl

-- ---- operations of one operand

one-plain : (d : Domain) (m : List ℕ) (at : ℕ) (op : Op1) (w : Width) (s : Src) (n : ℕ) → FreeUnit d m at (instr.One op w s) n → Changes op → Plain d.lo d.hi (placed (instr.One op w s) (words_in d m at))
one-plain d m at op w (src.Reg zero) n u c = absurd (u.all.accepted.none at rule.Pc (u.free, breaks-at d m at _ n u rule.Pc ((c, refl), λ b. b)))
one-plain d m at op w (src.Reg (suc zero)) n u c = absurd (u.all.accepted.none at rule.Sp (u.free, breaks-at d m at _ n u rule.Sp ((c, refl), not-guarded d m at _ n u guard.Sp tt)))
one-plain d m at op w (src.Reg (suc (suc zero))) n u c = absurd (u.all.accepted.none at rule.Sr (u.free, breaks-at d m at _ n u rule.Sr ((c, refl), λ b. b)))
one-plain d m at op w (src.Reg (suc (suc (suc k)))) n u c =
    let f = stands_first d.object.code at (instr.One op w (src.Reg (suc (suc (suc k))))) n u.stands in
    ChangesReg op w (suc (suc (suc k))) (changes-true op c) (omega arith) (omega (arith, f.source.0))
one-plain d m at op w (src.Absolute x) n u c =
    let i = instr.One op w (src.Absolute x) in
    let in_static = stable (static-or-not d.object (at + 1) x) (λ wild. u.all.accepted.none at rule.Static (u.free, breaks-at d m at i n u rule.Static (c, wild))) in
    let word : get_or d.object.code (at + 1) 0 ≡ x = operand-word d.object.code at (instr.One op w (src.Absolute x)) n 0 u.stands (omega arith) in
    let b = data-word d m (at + 1) x u.all (omega (arith, size-is (drop at d.object.code) (instr.One op w (src.Absolute x)) n u.stands, u.stands.0, length-drop at d.object.code, u.start.below)) word in_static in
    ChangesData op w (words_in d m at 1) (changes-true op c) b.0 b.1
one-plain d m at op w (src.Indexed k x) n u c = absurd (u.all.accepted.none at rule.Store (u.free, breaks-at d m at _ n u rule.Store ((c, tt), no-store d m at _ n u)))
one-plain d m at op w (src.Symbolic x) n u c = absurd (u.all.accepted.none at rule.Store (u.free, breaks-at d m at _ n u rule.Store ((c, tt), no-store d m at _ n u)))
one-plain d m at op w (src.Indirect k) n u c = absurd (u.all.accepted.none at rule.Store (u.free, breaks-at d m at _ n u rule.Store ((c, tt), no-store d m at _ n u)))
one-plain d m at op w (src.AutoInc k) n u c = absurd (u.all.accepted.none at rule.Store (u.free, breaks-at d m at _ n u rule.Store ((c, tt), no-store d m at _ n u)))
one-plain d m at op w (src.Immediate x) n u c = absurd (no-immediate op c (stands_first d.object.code at (instr.One op w (src.Immediate x)) n u.stands).takes)
  where
    no-immediate : (op : Op1) → Changes op → TakesImmediate op → ⊥
    no-immediate Rrc c t = t
    no-immediate Swpb c t = t
    no-immediate Rra c t = t
    no-immediate Sxt c t = t
    no-immediate Push c t = c
    no-immediate Call c t = c
one-plain d m at op w (src.Const k) n u c = absurd (no-const op c (stands_first d.object.code at (instr.One op w (src.Const k)) n u.stands).takes)
  where
    no-const : (op : Op1) → Changes op → TakesConst op → ⊥
    no-const Rrc c t = t
    no-const Swpb c t = t
    no-const Rra c t = t
    no-const Sxt c t = t
    no-const Push c t = c
    no-const Call c t = c

pub one-sort : (d : Domain) (m : List ℕ) (at : ℕ) (op : Op1) (w : Width) (s : Src) (n : ℕ) → FreeUnit d m at (instr.One op w s) n → Sort d m at (instr.One op w s)
one-sort d m at Push w s n u = absurd (u.all.accepted.none at rule.Push (u.free, breaks-at d m at _ n u rule.Push (tt, not-guarded d m at _ n u guard.Growth tt)))
one-sort d m at Call w s n u = absurd (u.all.accepted.none at rule.Push (u.free, breaks-at d m at _ n u rule.Push (tt, not-guarded d m at _ n u guard.Growth tt)))
one-sort d m at Rrc w s n u = IsPlain _ (one-plain d m at Rrc w s n u tt)
one-sort d m at Swpb w s n u = IsPlain _ (one-plain d m at Swpb w s n u tt)
one-sort d m at Rra w s n u = IsPlain _ (one-plain d m at Rra w s n u tt)
one-sort d m at Sxt w s n u = IsPlain _ (one-plain d m at Sxt w s n u tt)

-- Units without a check: an instruction of its own, a branch, and a jump over a branch.
use Rattle.std.proofs.Common.{◌≡◌, ℕ, ◌+◌, ◌-◌, ◌*◌, ◌%◌, ◌<◌, Bool, true, false, List, set, ℤ, refl, sym, ap, ◌∙◌, subst, arith}
use Rattle.std.specs.Prelude.{if◌then◌else◌, pos}
use Rattle.std.proofs.lemmas.List.{set-get_or}
use Rattle.machine_model.specs.Memory.{even}
use Rattle.machine_model.specs.Context.{reg, set_reg, IsContext}
use Rattle.machine_model.specs.Operands.{sum_of}
use Rattle.machine_model.specs.Does.{does, jump, holds, target, Effect}
use Rattle.machine_model.specs.Fetching.{IsFetched}
use Rattle.msp_encode.specs.declared.instr.Cond.{Cond}
use Rattle.msp_encode.specs.declared.instr.Cond.TheVariants.{Always}
use Rattle.msp_encode.specs.declared.instr.Instr.{Instr}
use Rattle.msp_encode.specs.declared.instr.Instr.TheVariants as instr
use Rattle.unit_laws.specs.Running.{held, silent, IsInside, Runs, Stays, RunsUnit}
use Rattle.unit_laws.specs.Lines.{Jumps, Branches, pc_after}
use Rattle.unit_laws.specs.Frame.{spread, spread_effect}
use Rattle.unit_laws.specs.Rows.{ended, branch, IsAtFirst, OwnUnitLaw, BranchUnitLaw, JumpUnitLaw, ShortJumpUnitLaw}
use Rattle.unit_laws.proofs.Lines.{line-does}
use Rattle.unit_laws.proofs.GoingOn.{pc-set}
use Rattle.unit_laws.proofs.Contexts.{as_held, held-context, line-runs, jump-taken, jump-passed}

-- ---- an instruction of its own

pub pc-again : (r : List ℕ) (p : ℕ) → IsContext r → reg r 0 ≡ p → set_reg r 0 p ≡ r
unfolding set_reg
pc-again r p h e = ap (set r 0) (omega (arith, h.pc_even, e)) ∙ set-get_or r 0 0

spread-again : (r : List ℕ) → spread r (reg r 4) (reg r 5) ≡ r
spread-again r = ap (λ (q : List ℕ). set q 5 (reg r 5)) (set-get_or r 4 0) ∙ set-get_or r 5 0

effect-again : (e : Effect) → spread_effect e (reg e.context 4) (reg e.context 5) ≡ e
effect-again e = ap (λ (c : List ℕ). record { context = c; written = e.written }) (spread-again e.context)

pub own-ends : OwnUnitLaw
own-ends m r first past i n g f e out =
    let same : set_reg r 0 (past - 2 * n) ≡ r = pc-again r (past - 2 * n) g.context (omega (arith, e, g.pc)) in
    let o = ended past m r i n in
    let x = reg o.context 4 in
    let y = reg o.context 5 in
    let last : does m r i n ≡ spread_effect o x y = ap (λ (q : List ℕ). does m q i n) (sym same) ∙ sym (effect-again o) in
    record {
      x = x;
      y = y;
      runs = record {
        steps = 0;
        before = r;
        runs = Stays r;
        instr = i;
        words = n;
        fetched = subst (λ (p : ℕ). IsFetched m p i n) (sym g.pc) f;
        last = last;
        leaves = λ q. out (subst (λ (c : Effect). IsInside first past (reg c.context 0)) (effect-again o) q);
      };
    }

-- ---- PC alone

-- a context with PC elsewhere, as its sixteen words
abbrev standing : List ℕ → ℕ → List ℕ
standing r pc = held r pc (reg r 2) (reg r 4) (reg r 5)

set-sixteen : (r : List ℕ) (x : ℕ) → set_reg (standing r (reg r 0)) 0 x ≡ standing r (even x)
unfolding set_reg
set-sixteen r x = refl

standing-set : (r : List ℕ) (x : ℕ) → IsContext r → x % 2 ≡ 0 → standing r x ≡ set_reg r 0 x
standing-set r x h e = ap (standing r) (omega (arith, e)) ∙ (sym (set-sixteen r x) ∙ ap (λ (q : List ℕ). set_reg q 0 x) (as_held r (reg r 0) h refl))

standing-context : (r : List ℕ) (pc : ℕ) → IsContext r → pc % 2 ≡ 0 → pc < 65536 → IsContext (standing r pc)
standing-context r pc h e b = held-context r pc (reg r 2) (reg r 4) (reg r 5) h e b (h.small 2) (h.small 4) (h.small 5)

-- an instruction that changes PC alone, and leads out of the unit, ends it
ends-alone : (m r : List ℕ) (first past k pc n x : ℕ) (i : Instr) → IsContext r → x % 2 ≡ 0 → IsFetched m pc i n → does m (standing r pc) i n ≡ silent (standing r x) → Runs m first past k r (standing r pc)
    → (IsInside first past x → ⊥) → RunsUnit m first past r (silent (set_reg r 0 x))
ends-alone m r first past k pc n x i h e f d rest out = subst (λ (q : List ℕ). RunsUnit m first past r (silent q)) (standing-set r x h e) record {
  steps = k;
  before = standing r pc;
  runs = rest;
  instr = i;
  words = n;
  fetched = f;
  last = d;
  leaves = out;
}

branch-does : (m r : List ℕ) (pc x : ℕ) → IsContext r → pc % 2 ≡ 0 → pc < 65536 → x % 2 ≡ 0 → x < 65536 → does m (standing r pc) (branch x) 2 ≡ silent (standing r x)
branch-does m r pc x h e b t l = line-does (Branches x) m r pc (reg r 2) (reg r 4) (reg r 5) h (standing-context r pc h e b) t l

pub branch-alone : BranchUnitLaw
branch-alone m r first past x g f e t l out =
    let even_first : first % 2 ≡ 0 = omega (arith, g.pc, g.context.pc_even) in
    let does_it = branch-does m r first x g.context even_first (omega (arith, g.below, e)) t l in
    let start = subst (Runs m first past 0 r) (sym (as_held r first g.context g.pc)) (Stays r) in
    ends-alone m r first past 0 first 2 x (branch x) g.context t f does_it start out

-- the jump of a jump over a branch leads inside the unit
jump-leads : (m r : List ℕ) (first past p : ℕ) (c : Cond) → IsAtFirst m r first past → IsFetched m first (instr.Jump c (pos 1)) 1 → past ≡ first + 8 → pc_after (Jumps c 1) first (reg r 2) ≡ p → first < p → p < past
    → Runs m first past 1 r (standing r p)
jump-leads m r first past p c g f e q a b =
    let h = g.context in
    subst (λ (z : List ℕ). Runs m first past 1 z (standing r p)) (as_held r first h g.pc)
    (line-runs (Jumps c 1) m r first past 0 first p (reg r 2) (reg r 4) (reg r 5) (standing r p) h tt (omega (arith, g.pc, h.pc_even)) (h.small 2) (h.small 4) (h.small 5)
    f q a b (omega (arith, e)) (omega (arith, g.below)) (Stays (standing r p)))

pub jump-alone : JumpUnitLaw
jump-alone m r first past x c g f over go e t l out = by (holds c (reg r 2)) refl
  where
    even_first : first % 2 ≡ 0
    even_first = omega (arith, g.pc, g.context.pc_even)

    by : (b : Bool) → holds c (reg r 2) ≡ b → RunsUnit m first past r (silent (set_reg r 0 (if b then x else past)))
    by true is = ends-alone m r first past 1 (first + 4) 2 x (branch x) g.context t go
        (branch-does m r (first + 4) x g.context (omega (arith, even_first)) (omega (arith, g.below, e)) t l)
        (jump-leads m r first past (first + 4) c g f e (jump-taken c 1 first (reg r 2) is) (omega arith) (omega (arith, e))) out
    by false is = ends-alone m r first past 1 (first + 2) 1 past (instr.Jump Always (pos 2)) g.context (omega (arith, e, even_first)) over
        (line-does (Jumps Always 2) m r (first + 2) (reg r 2) (reg r 4) (reg r 5) g.context (standing-context r (first + 2) g.context (omega (arith, even_first)) (omega (arith, g.below, e))) tt (omega (arith, g.below, e))
        ∙ ap (λ (p : ℕ). silent (standing r p)) (omega (arith, e)))
        (jump-leads m r first past (first + 2) c g f e (jump-passed c 1 first (reg r 2) is) (omega arith) (omega (arith, e))) (λ i. omega (arith, i.1))

-- ---- a jump of its own

jump-goes : (m r : List ℕ) (first past : ℕ) (c : Cond) (k : ℤ) → IsAtFirst m r first past → past ≡ first + 2 → does m r (instr.Jump c k) 1 ≡ silent (set_reg r 0 (if holds c (reg r 2) then target first k else past))
unfolding does jump
jump-goes m r first past c k g e =
    ap (λ (p : ℕ). silent (set_reg r 0 (if holds c (reg r 2) then target p k else sum_of p 2))) g.pc
    ∙ ap (λ (p : ℕ). silent (set_reg r 0 (if holds c (reg r 2) then target first k else p))) (omega (arith, e, g.below))

-- there is no even address inside a unit of one word
pub short-jump : ShortJumpUnitLaw
short-jump m r first past c k g f e = record {
  steps = 0;
  before = r;
  runs = Stays r;
  instr = instr.Jump c k;
  words = 1;
  fetched = subst (λ (p : ℕ). IsFetched m p (instr.Jump c k) 1) (sym g.pc) f;
  last = jump-goes m r first past c k g e;
  leaves = λ i. omega (arith, i.0, i.1, e, g.pc, g.context.pc_even, pc-set r (if holds c (reg r 2) then target first k else past) g.context.words);
}

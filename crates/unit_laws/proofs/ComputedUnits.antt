-- Units of computed jumps and of returns.
use Rattle.std.proofs.Common.{◌≡◌, ℕ, zero, suc, ◌+◌, ◌-◌, ◌*◌, ◌%◌, ◌<◌, ◌≤◌, List, length, refl, sym, ap, ◌∙◌, subst, arith}
use Rattle.machine_model.specs.Memory.{IsMemory}
use Rattle.machine_model.specs.Context.{reg, set_reg, IsContext}
use Rattle.machine_model.specs.Operands.{source_value, after_source}
use Rattle.machine_model.specs.Status.{with_flags}
use Rattle.machine_model.specs.Alu.{alu}
use Rattle.machine_model.specs.Does.{does, Effect}
use Rattle.machine_model.specs.Fetching.{IsFetched}
use Rattle.msp_encode.specs.declared.instr.Width.TheVariants.{Wide}
use Rattle.msp_encode.specs.declared.instr.Op2.TheVariants.{Mov}
use Rattle.msp_encode.specs.declared.instr.Src.{Src}
use Rattle.msp_encode.specs.declared.instr.Src.TheVariants as src
use Rattle.msp_encode.specs.declared.instr.Dst.TheVariants as dst
use Rattle.msp_encode.specs.declared.instr.Instr.{Instr}
use Rattle.msp_encode.specs.declared.instr.Instr.TheVariants as instr
use Rattle.msp_encode.specs.Spelling.{SrcFits}
use Rattle.unit_laws.specs.Running.{held, silent, Runs, RunsUnit}
use Rattle.unit_laws.specs.Guards.{WordsAt, pop_words, IsAtGuard, Stops}
use Rattle.unit_laws.specs.Frame.{spread_effect}
use Rattle.unit_laws.specs.Rows.{SrcFree, IsAtFirst, Halts, branch, ended, entering, ComputedUnitLaw, ReturnUnitLaw}
use Rattle.unit_laws.proofs.Running.{follow}
use Rattle.unit_laws.proofs.Contexts.{as_held, branch-ends}
use Rattle.unit_laws.proofs.Flags.{SameButFlags}
use Rattle.unit_laws.proofs.Guards.{pop-ends}
use Rattle.unit_laws.proofs.GuardedUnits.{stopped}
use Rattle.machine_model.proofs.Values.{source-small}
use Rattle.machine_model.proofs.Contexts.{after-context}
use Rattle.unit_laws.proofs.IntoR4.{to-register, moves}
use Rattle.kernel_model.specs.declared.entries.TheConstants.{FIRST_ENTRY, GOES, STACK_FAULT}

-- ---- where a unit begins

pub some-words : (m : List ℕ) (pc : ℕ) (i : Instr) (n : ℕ) → IsFetched m pc i n → 1 ≤ n
some-words m pc i zero f = absurd f.1
some-words m pc i (suc n) f = omega arith

pub first-even : (m r : List ℕ) (first past : ℕ) → IsAtFirst m r first past → first % 2 ≡ 0
first-even m r first past h = omega (arith, h.pc, h.context.pc_even)

-- a guard at a unit's begin
pub guard-first : (m r : List ℕ) (first past : ℕ) (ws : List ℕ) → IsAtFirst m r first past → WordsAt m first 0 ws → first + 2 * length ws < past → IsAtGuard m r first past first ws
guard-first m r first past ws h w l = record { memory = h.memory; context = h.context; pc = h.pc; words = w; begins = omega arith; within = l; below = h.below }

-- a guard that stops halts the unit, behind steps that lead to the registers of b with other flags at most
pub halted : (m r b : List ℕ) (first past k at sr v y entry x : ℕ) → SameButFlags sr (reg r 2) → Runs m first past k r (held b at sr v y) → Stops m (held b at sr v y) first past entry x → Halts m r first past entry b
halted m r b first past k at sr v y entry x same run h =
    let f = h.flags in
    let ends = follow m first past k r (held b at sr v y) (silent (held b entry (with_flags sr f.c f.z f.n f.v) x sr)) run h.ends in
    record { x = x; y = sr; flags = f; runs = subst (λ (s : ℕ). RunsUnit m first past r (silent (held b entry s x sr))) (same f.c f.z f.n f.v) ends }

-- ---- a jump to what is in R4

-- a context where PC was set, as sixteen words
pub set-held : (r : List ℕ) (p : ℕ) → IsContext r → p % 2 ≡ 0 → set_reg r 0 p ≡ held r p (reg r 2) (reg r 4) (reg r 5)
unfolding set_reg
set-held r p h e = ap (λ (q : List ℕ). set_reg q 0 p) (sym (as_held r (reg r 0) h refl)) ∙ ap (λ (v : ℕ). held r v (reg r 2) (reg r 4) (reg r 5)) (omega (arith, e))

-- `MOV src,PC` at a unit's end, but for PC, R4 and R5
pub entered : (m r : List ℕ) (past n : ℕ) (s : Src) (a x y : ℕ) → IsContext r → SrcFits s → SrcFree s → past % 2 ≡ 0 → 2 * n ≤ past → past < 65536 → a % 2 ≡ 0
    → silent (held (after_source Wide s r) a (reg r 2) x y) ≡ spread_effect (entering (ended past m r (instr.Two Mov Wide s (dst.Reg 0)) n) a) x y
unfolding set_reg alu
entered m r past n s a x y h f g e b l t =
    let at = past - 2 * n in
    let ae : at % 2 ≡ 0 = omega (arith, e, b) in
    let al : at + 2 * n < 65536 = omega (arith, b, l) in
    sym (ap (λ (q : List ℕ). spread_effect (entering (does m q (instr.Two Mov Wide s (dst.Reg 0)) n) a) x y) (set-held r at h ae)
    ∙ (ap (λ (i : Effect). spread_effect (entering i a) x y) (to-register Mov Wide s 0 n m r at (reg r 4) (reg r 5) h f g refl ae al)
    ∙ ap (λ (p : ℕ). silent (held (after_source Wide s r) p (reg r 2) x y)) (omega (arith, t))))

-- `MOV src,R4` and `MOV #F004,PC`, from an address in the unit on
computed-runs : (m r : List ℕ) (first past at next n : ℕ) (s : Src) (x y : ℕ) → IsContext r → IsMemory m → first ≤ at → at % 2 ≡ 0 → next ≡ at + 2 * n → past ≡ next + 4 → past ≤ FIRST_ENTRY → x < 65536 → y < 65536
    → SrcFits s → SrcFree s → IsFetched m at (instr.Two Mov Wide s (dst.Reg 4)) n → IsFetched m next (branch GOES) 2
    → RunsUnit m first past (held r at (reg r 2) x y) (silent (held (after_source Wide s r) GOES (reg r 2) (source_value Wide s 0 m r) y))
computed-runs m r first past at next n s x y h mem b e g j l u w f a fetched last =
    let q = held (after_source Wide s r) next (reg r 2) (source_value Wide s 0 m r) y in
    let some : 1 ≤ n = some-words m at (instr.Two Mov Wide s (dst.Reg 4)) n fetched in
    let run : Runs m first past 1 (held r at (reg r 2) x y) q = moves m r first past at next n s x y h f a e g some b (omega (arith, j)) l fetched in
    branch-ends GOES m (after_source Wide s r) first past 1 next (reg r 2) (source_value Wide s 0 m r) y (held r at (reg r 2) x y) (after-context Wide s r h) refl (omega arith) (omega (arith, l))
    (omega (arith, e, g)) (omega (arith, j)) (h.small 2) (source-small Wide s 0 m r mem) w last run

pub computed-unit : ComputedUnitLaw
computed-unit m r first past s n h fetched last e f a =
    let even-first = first-even m r first past h in
    let run = computed-runs m r first past first (first + 2 * n) n s (reg r 4) (reg r 5) h.context h.memory (omega arith) even-first refl (omega (arith, e)) h.below (h.context.small 4) (h.context.small 5) f a fetched last in
    let from = subst (λ (q : List ℕ). RunsUnit m first past q (silent (held (after_source Wide s r) GOES (reg r 2) (source_value Wide s 0 m r) (reg r 5)))) (as_held r first h.context h.pc) run in
    record {
      y = reg r 5;
      runs = subst (RunsUnit m first past r) (entered m r past n s GOES (source_value Wide s 0 m r) (reg r 5) h.context f a (omega (arith, e, even-first)) (omega (arith, e)) (omega (arith, h.below)) refl) from;
    }

-- ---- a return

pub popped-fits : SrcFits (src.AutoInc 1)
popped-fits = (omega arith, (omega arith, omega arith, omega arith))

pub popped-free : SrcFree (src.AutoInc 1)
popped-free = (omega arith, (omega arith, omega arith))

pub return-unit : ReturnUnitLaw
return-unit m r first past h words fetched last e =
    let even-first = first-even m r first past h in
    let guard = pop-ends m r first past first (guard-first m r first past pop_words h words (omega (arith, e))) in
    let target = source_value Wide (src.AutoInc 1) 0 m r in
    let run = computed-runs m r first past (first + 14) (first + 16) 1 (src.AutoInc 1) (reg r 4) (reg r 2) h.context h.memory (omega arith) (omega (arith, even-first)) (omega arith) (omega (arith, e)) h.below
    (h.context.small 4) (h.context.small 2) popped-fits popped-free fetched last in
    let same = entered m r past 1 (src.AutoInc 1) GOES target (reg r 2) h.context popped-fits popped-free (omega (arith, e, even-first)) (omega (arith, e)) (omega (arith, h.below)) refl in
    record {
      goes = λ p. record { y = reg r 2; runs = follow m first past 4 r (held r (first + 14) (reg r 2) (reg r 4) (reg r 2)) _ (guard.passes p) (subst (RunsUnit m first past (held r (first + 14) (reg r 2) (reg r 4) (reg r 2))) same run) };
      halts = λ p. stopped m r first past STACK_FAULT (reg r 4) (guard.stops p);
    }

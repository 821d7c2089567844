-- Units of computed calls.
use Rattle.std.proofs.Common.{◌≡◌, ℕ, ◌+◌, ◌-◌, ◌*◌, ◌%◌, ◌<◌, ◌≤◌, List, refl, sym, ap, ◌∙◌, subst, arith}
use Rattle.machine_model.specs.Context.{reg, set_reg, IsContext}
use Rattle.machine_model.specs.Operands.{sum_of, source_value, after_source, stored}
use Rattle.machine_model.specs.Does.{does, one, call, lowered, Effect}
use Rattle.machine_model.specs.Fetching.{IsFetched}
use Rattle.msp_encode.specs.declared.instr.Width.TheVariants.{Wide}
use Rattle.msp_encode.specs.declared.instr.Op1.TheVariants.{Call}
use Rattle.msp_encode.specs.declared.instr.Src.{Src}
use Rattle.msp_encode.specs.declared.instr.Src.TheVariants as src
use Rattle.msp_encode.specs.declared.instr.Instr.TheVariants as instr
use Rattle.msp_encode.specs.Spelling.{SrcFits}
use Rattle.unit_laws.specs.Running.{held, IsInside, Runs, RunsUnit}
use Rattle.unit_laws.specs.Frame.{spread_effect}
use Rattle.unit_laws.specs.Rows.{SrcFree, IsAtFirst, ended, entering, CalleeUnitLaw}
use Rattle.unit_laws.proofs.Running.{follow}
use Rattle.unit_laws.proofs.Contexts.{as_held, held-context}
use Rattle.unit_laws.proofs.Frame.{effect_of}
use Rattle.unit_laws.proofs.Guarded.{after-other}
use Rattle.unit_laws.proofs.Flags.{same-self}
use Rattle.unit_laws.proofs.Guards.{growth-ends}
use Rattle.machine_model.proofs.Values.{source-small}
use Rattle.machine_model.proofs.Contexts.{after-context}
use Rattle.unit_laws.proofs.IntoR4.{source-held, after-held, passed-held, moves}
use Rattle.unit_laws.proofs.ComputedUnits.{first-even, halted, set-held}
use Rattle.kernel_model.specs.declared.entries.TheConstants.{CALLS, STACK_FAULT}

-- what a call of t does, where PC behind it is p
abbrev pub calling : (b : List ℕ) → (p t sr x y : ℕ) → Effect
calling b p t sr x y = let q = lowered (held b p sr x y) in effect_of (set_reg q 0 t) (stored Wide (reg q 1) p)

calls-place : (t : ℕ) (m b : List ℕ) (at p sr x y : ℕ) → at % 2 ≡ 0 → p ≡ at + 4 → p < 65536 → t < 65536 → does m (held b at sr x y) (instr.One Call Wide (src.Immediate t)) 2 ≡ calling b p t sr x y
unfolding does one call set_reg source_value after_source
calls-place t m b at p sr x y e g l u =
    ap (λ (k : ℕ). calling b k (t % 65536) sr x y) (omega (arith, e, g, l)) ∙ ap (λ (k : ℕ). calling b p k sr x y) (omega (arith, u))

-- `CALL src` at a unit's end, but for PC, R4 and R5
calls-source : (m r : List ℕ) (past n : ℕ) (s : Src) (a x y : ℕ) → IsContext r → SrcFits s → SrcFree s → past % 2 ≡ 0 → 2 * n ≤ past → past < 65536 → a % 2 ≡ 0
    → calling (after_source Wide s r) past a (reg r 2) x y ≡ spread_effect (entering (ended past m r (instr.One Call Wide s) n) a) x y
unfolding does one call set_reg
calls-source m r past n s a x y h f g e b l t =
    let at = past - 2 * n in
    let ae : at % 2 ≡ 0 = omega (arith, e, b) in
    let al : at + 2 * n < 65536 = omega (arith, b, l) in
    let ends : at + 2 * n ≡ past = omega (arith, b) in
    let c1 = held r past (reg r 2) (reg r 4) (reg r 5) in
    let v = source_value Wide s 0 m r in
    let last : List ℕ → ℕ → Effect = λ q k. let q2 = lowered q in spread_effect (entering (effect_of (set_reg q2 0 k) (stored Wide (reg q2 1) (reg q2 0))) a) x y in
    sym (ap (λ (q : List ℕ). spread_effect (entering (does m q (instr.One Call Wide s) n) a) x y) (set-held r at h ae)
    ∙ (ap (λ (q : List ℕ). last (after_source Wide s q) (source_value Wide s (sum_of at 2) m q)) (passed-held r at n (reg r 2) (reg r 4) (reg r 5) ae al ∙ ap (λ (p : ℕ). held r p (reg r 2) (reg r 4) (reg r 5)) ends)
    ∙ (ap (last (after_source Wide s c1)) (source-held Wide s (sum_of at 2) m r past (reg r 4) (reg r 5) h e g)
    ∙ (ap (λ (q : List ℕ). last q v) (after-held Wide s r past (reg r 2) (reg r 4) (reg r 5) h f g)
    ∙ ap (λ (k : ℕ). calling (after_source Wide s r) past k (reg r 2) x y) (omega (arith, t))))))

-- `CALL #F006` ends the unit
calls-end : (m r q : List ℕ) (first past at n k : ℕ) (s : Src) (x y : ℕ) → IsAtFirst m r first past → SrcFits s → SrcFree s → at % 2 ≡ 0 → past ≡ at + 4 → 2 * n ≤ past → IsFetched m at (instr.One Call Wide (src.Immediate CALLS)) 2
    → Runs m first past k q (held (after_source Wide s r) at (reg r 2) x y) → RunsUnit m first past q (spread_effect (entering (ended past m r (instr.One Call Wide s) n) CALLS) x y)
unfolding set_reg
calls-end m r q first past at n k s x y h f a e g b fetched run =
    let source = calls-source m r past n s CALLS x y h.context f a (omega (arith, e, g)) b (omega (arith, h.below)) refl in
    record {
      steps = k;
      before = held (after_source Wide s r) at (reg r 2) x y;
      runs = run;
      instr = instr.One Call Wide (src.Immediate CALLS);
      words = 2;
      fetched = fetched;
      last = calls-place CALLS m (after_source Wide s r) at past (reg r 2) x y e g (omega (arith, h.below)) (omega arith) ∙ source;
      leaves = λ i. out (subst (λ (d : Effect). IsInside first past (reg d.context 0)) (sym source) i);
    }
  where
    out : IsInside first past CALLS → ⊥
    out i = omega (arith, i.1, h.below)

pub callee-unit : CalleeUnitLaw
callee-unit m r first past s n h fetched some words last e f a steps =
    let even-first = first-even m r first past h in
    let b = after_source Wide s r in
    let v = source_value Wide s 0 m r in
    let at = first + 2 * n in
    let q = held b at (reg r 2) v (reg r 5) in
    let run : Runs m first past 1 r q = subst (λ (c : List ℕ). Runs m first past 1 c q) (as_held r first h.context h.pc)
    (moves m r first past first at n s (reg r 4) (reg r 5) h.context f a even-first refl some (omega arith) (omega (arith, e)) h.below fetched) in
    let context : IsContext q = held-context b at (reg r 2) v (reg r 5) (after-context Wide s r h.context) (omega (arith, even-first)) (omega (arith, e, h.below)) (h.context.small 2) (source-small Wide s 0 m r h.memory) (h.context.small 5) in
    let guard = growth-ends m q first past at record { memory = h.memory; context = context; pc = refl; words = words; begins = omega arith; within = omega (arith, e); below = h.below } in
    let sp : reg b 1 ≡ reg r 1 = after-other Wide s r 1 steps in
    let call-at : IsFetched m (at + 14) (instr.One Call Wide (src.Immediate CALLS)) 2 = subst (λ (p : ℕ). IsFetched m p (instr.One Call Wide (src.Immediate CALLS)) 2) (omega arith) last in
    record {
      goes = λ p. record { y = reg r 2; runs = follow m first past 1 r q _ run (calls-end m r q first past (at + 14) n 4 s v (reg r 2) h f a (omega (arith, even-first)) (omega (arith, e)) (omega (arith, e)) call-at (guard.passes (omega (arith, p, sp)))) };
      halts = λ p. halted m r b first past 1 at (reg r 2) v (reg r 5) STACK_FAULT v (same-self (reg r 2)) run (guard.stops (omega (arith, p, sp)));
    }

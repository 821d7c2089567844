-- Units of operations on SP, by way of R4.
use Rattle.std.proofs.Common.{◌≡◌, ℕ, ◌+◌, ◌-◌, ◌*◌, ◌%◌, ◌<◌, ◌≤◌, true, List, refl, sym, ap, ◌∙◌, subst, arith}
use Rattle.machine_model.specs.Context.{reg, set_reg, IsContext}
use Rattle.machine_model.specs.Operands.{low, source_value, after_source, place_to, value_in, put_context, put_pairs}
use Rattle.machine_model.specs.Alu.{alu}
use Rattle.machine_model.specs.Does.{does, two, Effect}
use Rattle.machine_model.specs.Fetching.{IsFetched}
use Rattle.msp_encode.specs.declared.instr.Width.{Width}
use Rattle.msp_encode.specs.declared.instr.Width.TheVariants.{Wide}
use Rattle.msp_encode.specs.declared.instr.Op2.{Op2}
use Rattle.msp_encode.specs.declared.instr.Src.{Src}
use Rattle.msp_encode.specs.declared.instr.Src.TheVariants as src
use Rattle.msp_encode.specs.declared.instr.Dst.TheVariants as dst
use Rattle.msp_encode.specs.declared.instr.Instr.TheVariants as instr
use Rattle.msp_encode.specs.Spelling.{SrcFits}
use Rattle.msp_encode.specs.Forms.{writes}
use Rattle.unit_laws.specs.Running.{held, silent, IsInside, Runs, RunsUnit}
use Rattle.unit_laws.specs.Frame.{spread_effect}
use Rattle.unit_laws.specs.Guarded.{Steps}
use Rattle.unit_laws.specs.Rows.{SrcFree, IsAtFirst, take_sp, give_sp, ended, new_sp, SetSpUnitLaw}
use Rattle.unit_laws.proofs.Running.{join, follow}
use Rattle.unit_laws.proofs.Contexts.{as_held, held-context}
use Rattle.unit_laws.proofs.Guarded.{after-other}
use Rattle.unit_laws.proofs.Flags.{operation-same}
use Rattle.unit_laws.proofs.Guards.{sp-ends}
use Rattle.machine_model.proofs.Values.{source-small, result-small, status-small}
use Rattle.machine_model.proofs.Contexts.{after-context}
use Rattle.unit_laws.proofs.IntoR4.{to-register, moves, operates}
use Rattle.unit_laws.proofs.ComputedUnits.{first-even, halted, set-held}
use Rattle.kernel_model.specs.declared.entries.TheConstants.{STACK_FAULT}

-- what `op src,SP` gives SR, as `new_sp` is what it gives SP
abbrev pub new_sr : (m r : List ℕ) → Op2 → Width → Src → ℕ
new_sr m r op w s = (alu op w (source_value w s 0 m r) (low w (reg r 1)) (reg r 2)).status

-- `MOV SP,R4`
takes : (m r : List ℕ) (first past : ℕ) → IsAtFirst m r first past → first + 2 < past → IsFetched m first take_sp 1 → Runs m first past 1 r (held r (first + 2) (reg r 2) (reg r 1) (reg r 5))
unfolding source_value after_source
takes m r first past h l fetched =
    subst (λ (v : ℕ). Runs m first past 1 r (held r (first + 2) (reg r 2) v (reg r 5))) (omega (arith, h.context.small 1))
    (subst (λ (c : List ℕ). Runs m first past 1 c (held r (first + 2) (reg r 2) (low Wide (reg r 1)) (reg r 5))) (as_held r first h.context h.pc)
    (moves m r first past first (first + 2) 1 (src.Reg 1) (reg r 4) (reg r 5) h.context (omega arith, omega arith) (omega arith, (omega arith, omega arith)) (first-even m r first past h) (omega arith) (omega arith) (omega arith) l h.below fetched))

-- `MOV R4,SP`
gives : (m b : List ℕ) (at p sr x y : ℕ) → at % 2 ≡ 0 → p ≡ at + 2 → p < 65536 → x < 65536 → does m (held b at sr x y) give_sp 1 ≡ silent (set_reg (held b p sr x y) 1 x)
unfolding does two set_reg source_value after_source place_to value_in put_context put_pairs alu
gives m b at p sr x y e g l u =
    ap (λ (k : ℕ). silent (set_reg (held b k sr x y) 1 (x % 65536))) (omega (arith, e, g, l)) ∙ ap (λ (k : ℕ). silent (set_reg (held b p sr x y) 1 k)) (omega (arith, u))

-- `op src,SP` at a unit's end, but for R4 and R5
sets-source : (m r : List ℕ) (past n : ℕ) (op : Op2) (w : Width) (s : Src) (x y : ℕ) → IsContext r → writes op ≡ true → SrcFits s → SrcFree s → (Steps s 1 → ⊥) → past % 2 ≡ 0 → 2 * n ≤ past → past < 65536
    → silent (set_reg (held (after_source w s r) past (new_sr m r op w s) x y) 1 (new_sp m r op w s)) ≡ spread_effect (ended past m r (instr.Two op w s (dst.Reg 1)) n) x y
unfolding set_reg
sets-source m r past n op w s x y h t f a steps e b l =
    let back = past - 2 * n in
    let back-even : back % 2 ≡ 0 = omega (arith, e, b) in
    let q = after_source w s r in
    sym (ap (λ (c : List ℕ). spread_effect (does m c (instr.Two op w s (dst.Reg 1)) n) x y) (set-held r back h back-even)
    ∙ (ap (λ (i : Effect). spread_effect i x y) (to-register op w s 1 n m r back (reg r 4) (reg r 5) h f a t back-even (omega (arith, b, l)))
    ∙ (ap (λ (v : ℕ). let o = alu op w (source_value w s 0 m r) (low w v) (reg r 2) in silent (set_reg (held q (back + 2 * n) o.status x y) 1 o.value)) (after-other w s r 1 steps)
    ∙ ap (λ (p : ℕ). silent (set_reg (held q p (new_sr m r op w s) x y) 1 (new_sp m r op w s))) (omega (arith, b)))))

-- `MOV R4,SP` ends the unit, where R4 has the new SP
sets-end : (m r c : List ℕ) (first past at n k : ℕ) (op : Op2) (w : Width) (s : Src) → IsAtFirst m r first past → writes op ≡ true → SrcFits s → SrcFree s → (Steps s 1 → ⊥) → at % 2 ≡ 0 → past ≡ at + 2 → 2 * n ≤ past → IsFetched m at give_sp 1
    → Runs m first past k c (held (after_source w s r) at (new_sr m r op w s) (new_sp m r op w s) (new_sr m r op w s))
    → RunsUnit m first past c (spread_effect (ended past m r (instr.Two op w s (dst.Reg 1)) n) (new_sp m r op w s) (new_sr m r op w s))
unfolding set_reg
sets-end m r c first past at n k op w s h t f a steps e g b fetched run =
    let v = new_sp m r op w s in
    let sr = new_sr m r op w s in
    let q = after_source w s r in
    let v-small : v < 65536 = result-small op w (source_value w s 0 m r) (reg r 1) (reg r 2) (source-small w s 0 m r h.memory) in
    let source = sets-source m r past n op w s v sr h.context t f a steps (omega (arith, e, g)) b (omega (arith, h.below)) in
    record {
      steps = k;
      before = held q at sr v sr;
      runs = run;
      instr = give_sp;
      words = 1;
      fetched = fetched;
      last = gives m q at past sr v sr e g (omega (arith, h.below)) v-small ∙ source;
      leaves = λ i. outside (subst (λ (d : Effect). IsInside first past (reg d.context 0)) (sym source) i);
    }
  where
    outside : IsInside first past past → ⊥
    outside i = omega (arith, i.1)

pub set-sp-unit : SetSpUnitLaw
set-sp-unit m r first past op w s n h taken fetched some words given e t f a steps =
    let even-first = first-even m r first past h in
    let b = after_source w s r in
    let v = new_sp m r op w s in
    let sr = new_sr m r op w s in
    let at = first + (2 + 2 * n) in
    let c = held r (first + 2) (reg r 2) (reg r 1) (reg r 5) in
    let q = held b at sr v (reg r 5) in
    let take : Runs m first past 1 r c = takes m r first past h (omega (arith, e)) taken in
    let sets : Runs m first past 1 c q = operates m r first past (first + 2) at n op w s (reg r 1) (reg r 5) h.context f a t (omega (arith, even-first)) (omega arith) some (omega arith) (omega (arith, e)) h.below fetched in
    let run : Runs m first past 2 r q = join m first past 1 1 r c q take sets in
    let v-small : v < 65536 = result-small op w (source_value w s 0 m r) (reg r 1) (reg r 2) (source-small w s 0 m r h.memory) in
    let sr-small : sr < 65536 = status-small op w (source_value w s 0 m r) (low w (reg r 1)) (reg r 2) (h.context.small 2) in
    let context : IsContext q = held-context b at sr v (reg r 5) (after-context w s r h.context) (omega (arith, even-first)) (omega (arith, e, h.below)) sr-small v-small (h.context.small 5) in
    let guard = sp-ends m q first past at record { memory = h.memory; context = context; pc = refl; words = words; begins = omega arith; within = omega (arith, e); below = h.below } in
    let give : IsFetched m (at + 20) give_sp 1 = subst (λ (p : ℕ). IsFetched m p give_sp 1) (omega arith) given in
    record {
      goes = λ p. record { x = v; y = sr; runs = follow m first past 2 r q _ run (sets-end m r q first past (at + 20) n 6 op w s h t f a steps (omega (arith, even-first)) (omega (arith, e)) (omega (arith, e)) give (guard.passes p.0 p.1)) };
      halts = λ p. halted m r b first past 2 at sr v (reg r 5) STACK_FAULT v (operation-same op w (source_value w s 0 m r) (low w (reg r 1)) (reg r 2)) run (guard.stops p);
    }

-- Units of pops by way of R4.
use Rattle.std.proofs.Common.{◌≡◌, ℕ, ◌+◌, ◌-◌, ◌*◌, ◌%◌, ◌<◌, Bool, true, false, List, get_or, refl, sym, ap, ◌∙◌, arith}
use Rattle.std.specs.Prelude.{if◌then◌else◌}
use Rattle.machine_model.specs.Memory.{even, word_at, IsMemory}
use Rattle.machine_model.specs.Context.{reg, set_reg, IsContext}
use Rattle.machine_model.specs.Operands.{sum_of, low, load, source_value, after_source, place_to, value_in, put_context}
use Rattle.machine_model.specs.Alu.{alu}
use Rattle.machine_model.specs.Does.{does, two, Effect}
use Rattle.machine_model.specs.Fetching.{IsFetched}
use Rattle.machine_model.specs.declared.place.Place.{Place}
use Rattle.msp_encode.specs.declared.instr.Width.{Width}
use Rattle.msp_encode.specs.declared.instr.Width.TheVariants.{Wide, Byte}
use Rattle.msp_encode.specs.declared.instr.Op2.{Op2}
use Rattle.msp_encode.specs.declared.instr.Src.TheVariants as src
use Rattle.msp_encode.specs.declared.instr.Dst.{Dst}
use Rattle.msp_encode.specs.declared.instr.Dst.TheVariants as dst
use Rattle.msp_encode.specs.declared.instr.Instr.TheVariants as instr
use Rattle.msp_encode.specs.Forms.{writes}
use Rattle.unit_laws.specs.Running.{held, IsInside, Runs, Stays, RunsUnit}
use Rattle.unit_laws.specs.Guards.{pop_words}
use Rattle.unit_laws.specs.Frame.{DstAvoids, spread, spread_effect}
use Rattle.unit_laws.specs.Rows.{DstFree, IsAtFirst, ended, PopIntoUnitLaw}
use Rattle.unit_laws.proofs.Running.{follow}
use Rattle.unit_laws.proofs.Frame.{spread-reg, none, place-spread, place-avoids, value-spread, two_from, from-spread}
use Rattle.unit_laws.proofs.Guarded.{reg-other}
use Rattle.unit_laws.proofs.Guards.{pop-ends}
use Rattle.unit_laws.proofs.IntoR4.{after-held, passed-held, moves}
use Rattle.unit_laws.proofs.GuardedUnits.{stopped}
use Rattle.unit_laws.proofs.ComputedUnits.{first-even, guard-first, set-held, popped-fits, popped-free}
use Rattle.kernel_model.specs.declared.entries.TheConstants.{STACK_FAULT}

-- ---- an operation from its source on

abbrev pub onto : Op2 → Width → Dst → (at k : ℕ) → (m r : List ℕ) → Effect
onto op w d at k m r = let p = place_to d at r in two_from op w p k (value_in w p m r) r

dst-avoids : (d : Dst) → DstFree d → DstAvoids d
dst-avoids (dst.Reg n) a = a.1
dst-avoids (dst.Indexed n x) a = a.1
dst-avoids (dst.Symbolic x) a = absurd a
dst-avoids (dst.Absolute x) a = tt

-- the place doesn't depend on where the instruction stands
place-free : (d : Dst) (at to : ℕ) (r : List ℕ) → DstFree d → place_to d at r ≡ place_to d to r
unfolding place_to
place-free (dst.Reg n) at to r a = refl
place-free (dst.Indexed n x) at to r a = refl
place-free (dst.Symbolic x) at to r a = absurd a
place-free (dst.Absolute x) at to r a = refl

onto-spread : (op : Op2) (w : Width) (d : Dst) (at to k : ℕ) (m r : List ℕ) (x y : ℕ) → DstFree d → onto op w d at k m (spread r x y) ≡ spread_effect (onto op w d to k m r) x y
onto-spread op w d at to k m r x y a =
    let v = dst-avoids d a in
    let p = place_to d to r in
    ap (λ (p : Place). two_from op w p k (value_in w p m (spread r x y)) (spread r x y)) (place-spread d at r x y v ∙ place-free d at to r a)
    ∙ (ap (λ (j : ℕ). two_from op w p k j (spread r x y)) (value-spread w p m r x y (place-avoids d to r v)) ∙ from-spread op w p k (value_in w p m r) r x y (place-avoids d to r v))

put-pc : (d : Dst) (at v : ℕ) (r q : List ℕ) → DstFree d → reg (put_context (place_to d at r) v q) 0 ≡ reg q 0
unfolding place_to put_context
put-pc (dst.Reg n) at v r q a = reg-other q n v 0 (λ e. a.0 (sym e))
put-pc (dst.Indexed n x) at v r q a = refl
put-pc (dst.Symbolic x) at v r q a = absurd a
put-pc (dst.Absolute x) at v r q a = refl

either-pc : (b : Bool) (p q : List ℕ) (v : ℕ) → reg p 0 ≡ v → reg q 0 ≡ v → reg (if b then p else q) 0 ≡ v
either-pc true p q v e f = e
either-pc false p q v e f = f

-- PC stays
onto-pc : (op : Op2) (w : Width) (d : Dst) (at k : ℕ) (m r : List ℕ) → DstFree d → reg (onto op w d at k m r).context 0 ≡ reg r 0
onto-pc op w d at k m r a =
    let o = alu op w k (value_in w (place_to d at r) m r) (reg r 2) in
    let kept : reg (set_reg r 2 o.status) 0 ≡ reg r 0 = reg-other r 2 o.status 0 (omega arith) in
    either-pc (writes op) (put_context (place_to d at r) o.value (set_reg r 2 o.status)) (set_reg r 2 o.status) (reg r 0) (put-pc d at o.value r (set_reg r 2 o.status) a ∙ kept) kept

-- ---- `op R4,dst` and `op @SP+,dst`

r4-onto : (op : Op2) (w : Width) (d : Dst) (n : ℕ) (m b : List ℕ) (at sr v y : ℕ) → at % 2 ≡ 0 → at + 2 * n < 65536
    → does m (held b at sr v y) (instr.Two op w (src.Reg 4) d) n ≡ onto op w d (sum_of at (2 * n - 2)) (low w v) m (held b (at + 2 * n) sr v y)
unfolding does two source_value after_source
r4-onto op w d n m b at sr v y e l = ap (λ (q : List ℕ). onto op w d (sum_of at (2 * n - 2)) (low w (reg q 4)) m q) (passed-held b at n sr v y e l)

-- SP steps by 2 at both widths
pops-word : (w : Width) (r : List ℕ) → after_source w (src.AutoInc 1) r ≡ after_source Wide (src.AutoInc 1) r
unfolding after_source
pops-word Wide r = refl
pops-word Byte r = refl

popped-onto : (op : Op2) (w : Width) (d : Dst) (n : ℕ) (m r : List ℕ) (at sr x y : ℕ) → IsContext r → at % 2 ≡ 0 → at + 2 * n < 65536
    → does m (held r at sr x y) (instr.Two op w (src.AutoInc 1) d) n ≡ onto op w d (sum_of at (2 * n - 2)) (load w m (reg r 1)) m (held (after_source Wide (src.AutoInc 1) r) (at + 2 * n) sr x y)
unfolding does two source_value
popped-onto op w d n m r at sr x y h e l =
    ap (λ (q : List ℕ). onto op w d (sum_of at (2 * n - 2)) (load w m (reg q 1)) m (after_source w (src.AutoInc 1) q)) (passed-held r at n sr x y e l)
    ∙ ap (onto op w d (sum_of at (2 * n - 2)) (load w m (reg r 1)) m) (after-held w (src.AutoInc 1) r (at + 2 * n) sr x y h popped-fits popped-free ∙ ap (λ (b : List ℕ). held b (at + 2 * n) sr x y) (pops-word w r))

-- what was popped is what `@SP+` reads
popped-value : (w : Width) (m r : List ℕ) → IsMemory m → IsContext r → low w (source_value Wide (src.AutoInc 1) 0 m r) ≡ load w m (reg r 1)
unfolding source_value word_at
popped-value Wide m r h c = omega (arith, h.small (even (reg r 1)), h.small (even (reg r 1) + 1))
popped-value Byte m r h c =
    let same : even (reg r 1) ≡ reg r 1 = omega (arith, c.sp_even) in
    let read : get_or m (even (reg r 1)) 0 ≡ get_or m (reg r 1) 0 = ap (λ (a : ℕ). get_or m a 0) same in
    omega (arith, read, h.small (reg r 1))

-- ---- the unit

-- `op R4,dst` ends the unit, where R4 has what was popped
pops-end : (m r : List ℕ) (first past at n : ℕ) (op : Op2) (w : Width) (d : Dst) (y : ℕ) → IsAtFirst m r first past → DstFree d → at % 2 ≡ 0 → past ≡ at + 2 * n → IsFetched m at (instr.Two op w (src.Reg 4) d) n
    → (let v = source_value Wide (src.AutoInc 1) 0 m r in
    RunsUnit m first past (held (after_source Wide (src.AutoInc 1) r) at (reg r 2) v y) (spread_effect (ended past m r (instr.Two op w (src.AutoInc 1) d) n) v y))
pops-end m r first past at n op w d y h a e g fetched =
    let v = source_value Wide (src.AutoInc 1) 0 m r in
    let b = after_source Wide (src.AutoInc 1) r in
    let back = past - 2 * n in
    let back-even : back % 2 ≡ 0 = omega (arith, e, g) in
    let to = sum_of back (2 * n - 2) in
    let c = held b past (reg r 2) (reg r 4) (reg r 5) in
    let source : spread_effect (onto op w d to (load w m (reg r 1)) m c) v y ≡ spread_effect (ended past m r (instr.Two op w (src.AutoInc 1) d) n) v y =
    sym (ap (λ (q : List ℕ). spread_effect (does m q (instr.Two op w (src.AutoInc 1) d) n) v y) (set-held r back h.context back-even)
    ∙ (ap (λ (i : Effect). spread_effect i v y) (popped-onto op w d n m r back (reg r 2) (reg r 4) (reg r 5) h.context back-even (omega (arith, g, h.below)))
    ∙ ap (λ (p : ℕ). spread_effect (onto op w d to (load w m (reg r 1)) m (held b p (reg r 2) (reg r 4) (reg r 5))) v y) (omega (arith, g)))) in
    let last : does m (held b at (reg r 2) v y) (instr.Two op w (src.Reg 4) d) n ≡ spread_effect (onto op w d to (load w m (reg r 1)) m c) v y =
    r4-onto op w d n m b at (reg r 2) v y e (omega (arith, g, h.below))
    ∙ (ap (λ (p : ℕ). onto op w d (sum_of at (2 * n - 2)) (low w v) m (held b p (reg r 2) v y)) (sym g)
    ∙ (ap (λ (k : ℕ). onto op w d (sum_of at (2 * n - 2)) k m (held b past (reg r 2) v y)) (popped-value w m r h.memory h.context)
    ∙ onto-spread op w d (sum_of at (2 * n - 2)) to (load w m (reg r 1)) m c v y a)) in
    let ends : reg (spread_effect (onto op w d to (load w m (reg r 1)) m c) v y).context 0 ≡ past = spread-reg (onto op w d to (load w m (reg r 1)) m c).context v y 0 none ∙ onto-pc op w d to (load w m (reg r 1)) m c a in
    record {
      steps = 0;
      before = held b at (reg r 2) v y;
      runs = Stays (held b at (reg r 2) v y);
      instr = instr.Two op w (src.Reg 4) d;
      words = n;
      fetched = fetched;
      last = last ∙ source;
      leaves = λ i. outside (ap (λ (j : Effect). reg j.context 0) (sym source) ∙ ends) i;
    }
  where
    outside : {p : ℕ} → p ≡ past → IsInside first past p → ⊥
    outside q i = omega (arith, q, i.1)

pub pop-into-unit : PopIntoUnitLaw
pop-into-unit m r first past op w d n h words popped fetched e some a =
    let even-first = first-even m r first past h in
    let v = source_value Wide (src.AutoInc 1) 0 m r in
    let c = held r (first + 14) (reg r 2) (reg r 4) (reg r 2) in
    let q = held (after_source Wide (src.AutoInc 1) r) (first + 16) (reg r 2) v (reg r 2) in
    let guard = pop-ends m r first past first (guard-first m r first past pop_words h words (omega (arith, e, some))) in
    let run : Runs m first past 1 c q = moves m r first past (first + 14) (first + 16) 1 (src.AutoInc 1) (reg r 4) (reg r 2) h.context popped-fits popped-free (omega (arith, even-first)) (omega arith) (omega arith) (omega arith) (omega (arith, e, some)) h.below popped in
    let unit = pops-end m r first past (first + 16) n op w d (reg r 2) h a (omega (arith, even-first)) (omega (arith, e)) fetched in
    record {
      goes = λ p. record { x = v; y = reg r 2; runs = follow m first past 4 r c _ (guard.passes p) (follow m first past 1 c q _ run unit) };
      halts = λ p. stopped m r first past STACK_FAULT (reg r 4) (guard.stops p);
    }

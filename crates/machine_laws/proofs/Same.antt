-- The address that a guard tests stays the register's that it was taken from.
use Rattle.std.proofs.Common.{◌≡◌, ℕ, ◌%◌, ◌<◌, ◌≤◌, ◌==◌, Bool, false, if◌then◌else◌, List, refl, sym, ap, ◌∙◌, subst, arith}
use Rattle.std.specs.Prelude.{ℤ}
use Rattle.std.proofs.lemmas.Bool.Decides.{nat_tests}
use Rattle.machine_model.specs.Context.{reg, set_reg, IsContext}
use Rattle.machine_model.specs.Operands.{sum_of, source_value, after_source, place_to, value_in, put_context}
use Rattle.machine_model.specs.Alu.{alu, added}
use Rattle.machine_model.specs.Does.{does, Effect, passed, jump}
use Rattle.msp_encode.specs.declared.instr.Width.TheVariants.{Wide}
use Rattle.msp_encode.specs.declared.instr.Op2.TheVariants.{Mov, Add, Cmp}
use Rattle.msp_encode.specs.declared.instr.Cond.{Cond}
use Rattle.msp_encode.specs.declared.instr.Src.{Src}
use Rattle.msp_encode.specs.declared.instr.Src.TheVariants as src
use Rattle.msp_encode.specs.declared.instr.Dst.TheVariants as dst
use Rattle.msp_encode.specs.declared.instr.Instr.{Instr}
use Rattle.msp_encode.specs.declared.instr.Instr.TheVariants as instr
use Rattle.machine_laws.specs.Places.{TakesAddress, AddsIndex, ComparesLow, JumpsIfLow, ComparesHigh, JumpsIfHigh, StoreFails, StoreRestores, Stores, ComparesLimit, JumpsIfRoom, GrowthFails, GrowthRestores, Grows, ComparesTop, JumpsIfFilled, PopFails, PopRestores, Pops, ComparesNewLow, JumpsIfNewLow, ComparesNewHigh, JumpsIfNewHigh, SpFails, SpRestores, SetsSp}
use Rattle.machine_laws.specs.Own.{SameLaw}
use Rattle.machine_model.proofs.Flags.{with_flags-small}
use Rattle.machine_model.proofs.Contexts.{set-context}
use Rattle.machine_laws.proofs.Registers.{reg_other, high_same}
use Rattle.machine_laws.proofs.Operations.{outcome, two-writes, two-tests}

-- R4 and the register have one value
abbrev Same : ℕ → Effect → Type 0
Same k e = reg e.context 4 ≡ reg e.context k

-- a register's value as a source
register-value : (k at : ℕ) (m r : List ℕ) → 6 ≤ k → source_value Wide (src.Reg k) at m r ≡ reg r k % 65536
unfolding source_value
register-value k at m r h = ap (λ (b : Bool). (if b then at else reg r k) % 65536) other
  where
    other : (k == 0) ≡ false
    other = grind (arith, nat_tests, h)

taken : (m r : List ℕ) (k n : ℕ) → IsContext r → 6 ≤ k → k < 16 → Same k (does m r (instr.Two Mov Wide (src.Reg k) (dst.Reg 4)) n)
unfolding after_source place_to value_in put_context alu
taken m r k n c low high =
    let q = passed r n in
    let is = register-value k (sum_of (reg r 0) 2) m q low in
    let x = set_reg q 2 (outcome Mov Wide (src.Reg k) (dst.Reg 4) n m r).status in
    let v = (outcome Mov Wide (src.Reg k) (dst.Reg 4) n m r).value in
    let cq : IsContext q = set-context r 0 _ c (omega arith) in
    let cx : IsContext x = set-context q 2 _ cq (cq.small 2) in
    subst (Same k) (sym (two-writes Mov Wide (src.Reg k) (dst.Reg 4) n m r refl))
    (high_same x 4 v cx (omega arith) (omega arith) ∙ omega (arith, is, cq.small k) ∙ sym (reg_other x 4 v k (omega arith) ∙ reg_other q 2 _ k (omega arith)))

added_same : (m r : List ℕ) (y k n : ℕ) → IsContext r → 6 ≤ k → k < 16 → y ≡ 0 → reg r 4 ≡ reg r k → Same k (does m r (instr.Two Add Wide (src.Immediate y) (dst.Reg 4)) n)
unfolding source_value after_source place_to value_in put_context alu added
added_same m r y k n c low high none same =
    let q = passed r n in
    let o = outcome Add Wide (src.Immediate y) (dst.Reg 4) n m r in
    let x = set_reg q 2 o.status in
    let cq : IsContext q = set-context r 0 _ c (omega arith) in
    let r4 : reg q 4 ≡ reg r 4 = reg_other r 0 _ 4 (omega arith) in
    let rk : reg q k ≡ reg r k = reg_other r 0 _ k (omega arith) in
    let cx : IsContext x = set-context q 2 _ cq (with_flags-small _ _ _ _ _ (cq.small 2)) in
    let long : reg (set_reg x 4 o.value) 4 ≡ o.value = high_same x 4 o.value cx (omega arith) (omega arith) in
    subst (Same k) (sym (two-writes Add Wide (src.Immediate y) (dst.Reg 4) n m r refl))
    (long ∙ omega (arith, cq.small 4, none, r4, rk, same) ∙ sym (reg_other x 4 o.value k (omega arith) ∙ reg_other q 2 o.status k (omega arith)))

tested_same : (m r : List ℕ) (s y k n : ℕ) → 6 ≤ k → reg r 4 ≡ reg r k → Same k (does m r (instr.Two Cmp Wide (src.Immediate y) (dst.Reg 4)) n)
unfolding after_source
tested_same m r s y k n low same =
    let q = passed r n in
    subst (Same k) (sym (two-tests Cmp Wide (src.Immediate y) (dst.Reg 4) n m r refl))
    (reg_other q 2 _ 4 (omega arith) ∙ reg_other r 0 _ 4 (omega arith) ∙ same ∙ sym (reg_other q 2 _ k (omega arith) ∙ reg_other r 0 _ k (omega arith)))

jumped_same : (m r : List ℕ) (c : Cond) (z : ℤ) (k n : ℕ) → 6 ≤ k → reg r 4 ≡ reg r k → Same k (does m r (instr.Jump c z) n)
unfolding does jump
jumped_same m r c z k n low same = reg_other r 0 _ 4 (omega arith) ∙ same ∙ sym (reg_other r 0 _ k (omega arith))

restored_same : (m r : List ℕ) (k n : ℕ) → 6 ≤ k → reg r 4 ≡ reg r k → Same k (does m r (instr.Two Mov Wide (src.Reg 5) (dst.Reg 2)) n)
unfolding after_source place_to put_context
restored_same m r k n low same =
    let q = passed r n in
    let x = set_reg q 2 (outcome Mov Wide (src.Reg 5) (dst.Reg 2) n m r).status in
    subst (Same k) (sym (two-writes Mov Wide (src.Reg 5) (dst.Reg 2) n m r refl))
    (reg_other x 2 _ 4 (omega arith) ∙ reg_other q 2 _ 4 (omega arith) ∙ reg_other r 0 _ 4 (omega arith) ∙ same
    ∙ sym (reg_other x 2 _ k (omega arith) ∙ reg_other q 2 _ k (omega arith) ∙ reg_other r 0 _ k (omega arith)))

same-of : (m r : List ℕ) (i j : Instr) (k n : ℕ) → i ≡ j → Same k (does m r j n) → Same k (does m r i n)
same-of m r i j k n e h = subst (λ (x : Instr). Same k (does m r x n)) (sym e) h

pub same-stays : SameLaw
same-stays TakesAddress g b m r i n k c o low high t =
    same-of m r i (instr.Two Mov Wide (src.Reg k) (dst.Reg 4)) k n (o.0 ∙ ap (λ (s : Src). instr.Two Mov Wide s (dst.Reg 4)) t) (taken m r k n c low high)
same-stays AddsIndex g b m r i n k c o low high t = same-of m r i _ k n o.0 (added_same m r g.x k n c low high t.0 t.1)
same-stays ComparesLow g b m r i n k c o low high t = same-of m r i _ k n o.0 (tested_same m r 0 b.lo k n low t)
same-stays JumpsIfLow g b m r i n k c o low high t = same-of m r i _ k n o.0 (jumped_same m r _ _ k n low t)
same-stays ComparesHigh g b m r i n k c o low high t = same-of m r i _ k n o.0 (tested_same m r 0 b.hi k n low t)
same-stays JumpsIfHigh g b m r i n k c o low high t = same-of m r i _ k n o.0 (jumped_same m r _ _ k n low t)
same-stays StoreRestores g b m r i n k c o low high t = same-of m r i _ k n o.0 (restored_same m r k n low t)
same-stays StoreFails g b m r i n k c o low high t = absurd t
same-stays Stores g b m r i n k c o low high t = absurd t
same-stays ComparesLimit g b m r i n k c o low high t = absurd t
same-stays JumpsIfRoom g b m r i n k c o low high t = absurd t
same-stays GrowthFails g b m r i n k c o low high t = absurd t
same-stays GrowthRestores g b m r i n k c o low high t = absurd t
same-stays Grows g b m r i n k c o low high t = absurd t
same-stays ComparesTop g b m r i n k c o low high t = absurd t
same-stays JumpsIfFilled g b m r i n k c o low high t = absurd t
same-stays PopFails g b m r i n k c o low high t = absurd t
same-stays PopRestores g b m r i n k c o low high t = absurd t
same-stays Pops g b m r i n k c o low high t = absurd t
same-stays ComparesNewLow g b m r i n k c o low high t = absurd t
same-stays JumpsIfNewLow g b m r i n k c o low high t = absurd t
same-stays ComparesNewHigh g b m r i n k c o low high t = absurd t
same-stays JumpsIfNewHigh g b m r i n k c o low high t = absurd t
same-stays SpFails g b m r i n k c o low high t = absurd t
same-stays SpRestores g b m r i n k c o low high t = absurd t
same-stays SetsSp g b m r i n k c o low high t = absurd t

-- Instructions that need no guard.
use Rattle.std.proofs.Common.{◌≡◌, ℕ, ◌+◌, ◌-◌, ◌*◌, ◌%◌, ◌<◌, ◌≤◌, true, false, List, refl, sym, ◌∙◌, subst, arith}
use Rattle.machine_model.specs.Memory.{IsMemory}
use Rattle.machine_model.specs.Context.{reg}
use Rattle.machine_model.specs.Operands.{sum_of, source_value, after_source, place_to, place_of, value_in, put_context, put_pairs}
use Rattle.machine_model.specs.Alu.{alu, alu_one}
use Rattle.machine_model.specs.Does.{does, change, passed}
use Rattle.msp_encode.specs.declared.instr.Width.{Width}
use Rattle.msp_encode.specs.declared.instr.Width.TheVariants.{Wide}
use Rattle.msp_encode.specs.declared.instr.Op2.{Op2}
use Rattle.msp_encode.specs.declared.instr.Op2.TheVariants.{Bis, Bic}
use Rattle.msp_encode.specs.declared.instr.Op1.{Op1}
use Rattle.msp_encode.specs.declared.instr.Cg.{Cg}
use Rattle.msp_encode.specs.declared.instr.Src.{Src}
use Rattle.msp_encode.specs.declared.instr.Src.TheVariants as src
use Rattle.msp_encode.specs.declared.instr.Dst.{Dst}
use Rattle.msp_encode.specs.declared.instr.Dst.TheVariants as dst
use Rattle.msp_encode.specs.declared.instr.Instr.TheVariants as instr
use Rattle.msp_encode.specs.Forms.{writes, changes, const_value}
use Rattle.machine_laws.specs.Steady.{IsStatus, IsSteady, Bounds, AreBounds}
use Rattle.machine_laws.specs.Guarded.{Passes}
use Rattle.machine_laws.specs.Plain.{IsCalm, IsMask, Tests, ToReg, ToData, SetsBits, ClearsBits, SetsConst, ClearsConst, ChangesReg, ChangesData, PlainLaw}
use Rattle.machine_laws.proofs.Masks.{status-mod, status-set, status-clear}
use Rattle.machine_model.proofs.Values.{alu-small, one-small, source-small, value-small, size-word}
use Rattle.machine_laws.proofs.Statuses.{alu-status, one-status}
use Rattle.machine_laws.proofs.Registers.{reg_other, steady-sr, steady-reg, source-read}
use Rattle.machine_laws.proofs.Operations.{behind, outcome, two-writes, two-tests, one-changes, stored-inside}

-- what is known of the result of an operation
record Result (kb v st : ℕ) : Type 0 where
  value : v < 65536
  status : IsStatus kb st
  small : st < 65536

result-of : (kb low top : ℕ) (m r : List ℕ) (op : Op2) (w : Width) (s : Src) (d : Dst) (n : ℕ) → IsMemory m → IsSteady kb low top (behind w s n r)
    → Result kb (outcome op w s d n m r).value (outcome op w s d n m r).status
result-of kb low top m r op w s d n mem st =
    let q = behind w s n r in
    let a = source_value w s (sum_of (reg r 0) 2) m (passed r n) in
    let c = value_in w (place_to d (sum_of (reg r 0) (2 * n - 2)) q) m q in
    let ok = alu-status op w a c (reg q 2) kb st.status (st.context.small 2) in
    record {
      value = size-word w _ (alu-small op w a c (reg q 2) (source-small w s _ m _ mem) (value-small w _ m q mem));
      status = ok.0;
      small = ok.1;
    }

tests-pass : (b : Bounds) (kb : ℕ) (m r : List ℕ) (op : Op2) (w : Width) (s : Src) (d : Dst) (n : ℕ) → IsMemory m → IsSteady kb b.low b.top r → reg r 0 + 2 * n < 65536
    → writes op ≡ false → IsCalm s → Passes b.lo b.hi b kb (reg r 0 + 2 * n) (does m r (instr.Two op w s d) n)
tests-pass b kb m r op w s d n mem st p h c =
    let e = source-read kb b.low b.top w s r n st p c in
    let o = result-of kb b.low b.top m r op w s d n mem e.steady in
    subst (Passes b.lo b.hi b kb (reg r 0 + 2 * n)) (sym (two-tests op w s d n m r h)) record {
      steady = steady-sr kb b.low b.top _ _ e.steady o.status o.small;
      pc = reg_other _ 2 _ 0 (omega arith) ∙ e.pc;
      inside = tt;
    }

to_reg-passes : (b : Bounds) (kb : ℕ) (m r : List ℕ) (op : Op2) (w : Width) (s : Src) (k n : ℕ) → IsMemory m → IsSteady kb b.low b.top r → reg r 0 + 2 * n < 65536
    → writes op ≡ true → IsCalm s → 3 ≤ k → Passes b.lo b.hi b kb (reg r 0 + 2 * n) (does m r (instr.Two op w s (dst.Reg k)) n)
unfolding place_to put_context put_pairs
to_reg-passes b kb m r op w s k n mem st p h c l =
    let e = source-read kb b.low b.top w s r n st p c in
    let o = result-of kb b.low b.top m r op w s (dst.Reg k) n mem e.steady in
    let t = steady-sr kb b.low b.top (behind w s n r) (outcome op w s (dst.Reg k) n m r).status e.steady o.status o.small in
    subst (Passes b.lo b.hi b kb (reg r 0 + 2 * n)) (sym (two-writes op w s (dst.Reg k) n m r h)) record {
      steady = steady-reg kb b.low b.top _ k _ t (omega arith) (omega arith) o.value;
      pc = reg_other _ k _ 0 (omega arith) ∙ reg_other _ 2 _ 0 (omega arith) ∙ e.pc;
      inside = tt;
    }

to_data-passes : (b : Bounds) (kb : ℕ) (m r : List ℕ) (op : Op2) (w : Width) (s : Src) (x n : ℕ) → AreBounds b → IsMemory m → IsSteady kb b.low b.top r → reg r 0 + 2 * n < 65536
    → writes op ≡ true → IsCalm s → b.lo ≤ x → x < b.hi → Passes b.lo b.hi b kb (reg r 0 + 2 * n) (does m r (instr.Two op w s (dst.Absolute x)) n)
unfolding place_to put_context put_pairs
to_data-passes b kb m r op w s x n a mem st p h c l u =
    let e = source-read kb b.low b.top w s r n st p c in
    let o = result-of kb b.low b.top m r op w s (dst.Absolute x) n mem e.steady in
    subst (Passes b.lo b.hi b kb (reg r 0 + 2 * n)) (sym (two-writes op w s (dst.Absolute x) n m r h)) record {
      steady = steady-sr kb b.low b.top _ _ e.steady o.status o.small;
      pc = reg_other _ 2 _ 0 (omega arith) ∙ e.pc;
      inside = stored-inside w b.lo b.hi _ _ a.lo_even a.hi_even l u;
    }

changes_reg-passes : (b : Bounds) (kb : ℕ) (m r : List ℕ) (op : Op1) (w : Width) (k n : ℕ) → IsMemory m → IsSteady kb b.low b.top r → reg r 0 + 2 * n < 65536
    → changes op ≡ true → 3 ≤ k → Passes b.lo b.hi b kb (reg r 0 + 2 * n) (does m r (instr.One op w (src.Reg k)) n)
unfolding change after_source place_of put_context put_pairs
changes_reg-passes b kb m r op w k n mem st p h l =
    let e = source-read kb b.low b.top w (src.Reg k) r n st p tt in
    let v = source_value w (src.Reg k) (sum_of (reg r 0) 2) m (passed r n) in
    let ok = one-status op w v (reg (passed r n) 2) kb e.steady.status (e.steady.context.small 2) in
    let t = steady-sr kb b.low b.top (passed r n) (alu_one op w v (reg (passed r n) 2)).status e.steady ok.0 ok.1 in
    subst (Passes b.lo b.hi b kb (reg r 0 + 2 * n)) (sym (one-changes op w (src.Reg k) n m r h)) record {
      steady = steady-reg kb b.low b.top _ k _ t (omega arith) (omega arith) (one-small op w v _ (source-small w (src.Reg k) _ m _ mem));
      pc = reg_other _ k _ 0 (omega arith) ∙ reg_other _ 2 _ 0 (omega arith) ∙ e.pc;
      inside = tt;
    }

changes_data-passes : (b : Bounds) (kb : ℕ) (m r : List ℕ) (op : Op1) (w : Width) (x n : ℕ) → AreBounds b → IsSteady kb b.low b.top r → reg r 0 + 2 * n < 65536
    → changes op ≡ true → b.lo ≤ x → x < b.hi → Passes b.lo b.hi b kb (reg r 0 + 2 * n) (does m r (instr.One op w (src.Absolute x)) n)
unfolding change after_source place_of put_context put_pairs
changes_data-passes b kb m r op w x n a st p h l u =
    let e = source-read kb b.low b.top w (src.Absolute x) r n st p tt in
    let v = source_value w (src.Absolute x) (sum_of (reg r 0) 2) m (passed r n) in
    let ok = one-status op w v (reg (passed r n) 2) kb e.steady.status (e.steady.context.small 2) in
    subst (Passes b.lo b.hi b kb (reg r 0 + 2 * n)) (sym (one-changes op w (src.Absolute x) n m r h)) record {
      steady = steady-sr kb b.low b.top _ _ e.steady ok.0 ok.1;
      pc = reg_other _ 2 _ 0 (omega arith) ∙ e.pc;
      inside = stored-inside w b.lo b.hi _ _ a.lo_even a.hi_even l u;
    }

-- an operation of words on SR with a word that leaves the control bits
flags-pass : (b : Bounds) (kb : ℕ) (m r : List ℕ) (op : Op2) (s : Src) (n : ℕ) → IsMemory m → IsSteady kb b.low b.top r → reg r 0 + 2 * n < 65536
    → writes op ≡ true → IsCalm s → IsStatus kb (outcome op Wide s (dst.Reg 2) n m r).value → Passes b.lo b.hi b kb (reg r 0 + 2 * n) (does m r (instr.Two op Wide s (dst.Reg 2)) n)
unfolding place_to put_context put_pairs
flags-pass b kb m r op s n mem st p h c ok =
    let e = source-read kb b.low b.top Wide s r n st p c in
    let o = result-of kb b.low b.top m r op Wide s (dst.Reg 2) n mem e.steady in
    let t = steady-sr kb b.low b.top (behind Wide s n r) (outcome op Wide s (dst.Reg 2) n m r).status e.steady o.status o.small in
    subst (Passes b.lo b.hi b kb (reg r 0 + 2 * n)) (sym (two-writes op Wide s (dst.Reg 2) n m r h)) record {
      steady = steady-sr kb b.low b.top _ _ t ok o.value;
      pc = reg_other _ 2 _ 0 (omega arith) ∙ reg_other _ 2 _ 0 (omega arith) ∙ e.pc;
      inside = tt;
    }

sets-bits : (b : Bounds) (kb : ℕ) (m r : List ℕ) (s : Src) (n : ℕ) → IsMemory m → IsSteady kb b.low b.top r → reg r 0 + 2 * n < 65536
    → IsCalm s → IsMask (source_value Wide s (sum_of (reg r 0) 2) m (passed r n)) → Passes b.lo b.hi b kb (reg r 0 + 2 * n) (does m r (instr.Two Bis Wide s (dst.Reg 2)) n)
unfolding alu place_to value_in
sets-bits b kb m r s n mem st p c k =
    let e = source-read kb b.low b.top Wide s r n st p c in
    flags-pass b kb m r Bis s n mem st p refl c (status-set kb _ _ (status-mod kb _ e.steady.status (e.steady.context.small 2)) k)

clears-bits : (b : Bounds) (kb : ℕ) (m r : List ℕ) (s : Src) (n : ℕ) → IsMemory m → IsSteady kb b.low b.top r → reg r 0 + 2 * n < 65536
    → IsCalm s → IsMask (source_value Wide s (sum_of (reg r 0) 2) m (passed r n)) → Passes b.lo b.hi b kb (reg r 0 + 2 * n) (does m r (instr.Two Bic Wide s (dst.Reg 2)) n)
unfolding alu place_to value_in
clears-bits b kb m r s n mem st p c k =
    let e = source-read kb b.low b.top Wide s r n st p c in
    flags-pass b kb m r Bic s n mem st p refl c (status-clear kb _ _ (status-mod kb _ e.steady.status (e.steady.context.small 2)) (source-small Wide s _ m _ mem) k)

mask-mod : (x : ℕ) → IsMask x → IsMask (x % 65536)
mask-mod x h = (omega (arith, h.0), omega (arith, h.0, h.1))

immediate-mask : (m r : List ℕ) (x n : ℕ) → IsMask x → IsMask (source_value Wide (src.Immediate x) (sum_of (reg r 0) 2) m (passed r n))
unfolding source_value
immediate-mask m r x n h = mask-mod x h

constant-mask : (m r : List ℕ) (k : Cg) (n : ℕ) → IsMask (const_value k) → IsMask (source_value Wide (src.Const k) (sum_of (reg r 0) 2) m (passed r n))
unfolding source_value
constant-mask m r k n h = mask-mod (const_value k) h

pub plain-passes : PlainLaw
plain-passes b kb m r i n a mem st p (Tests op w s d h c) = tests-pass b kb m r op w s d n mem st p h c
plain-passes b kb m r i n a mem st p (ToReg op w s k h c l u) = to_reg-passes b kb m r op w s k n mem st p h c l
plain-passes b kb m r i n a mem st p (ToData op w s x h c l u) = to_data-passes b kb m r op w s x n a mem st p h c l u
plain-passes b kb m r i n a mem st p (SetsBits x h) = sets-bits b kb m r (src.Immediate x) n mem st p tt (immediate-mask m r x n h)
plain-passes b kb m r i n a mem st p (ClearsBits x h) = clears-bits b kb m r (src.Immediate x) n mem st p tt (immediate-mask m r x n h)
plain-passes b kb m r i n a mem st p (SetsConst k h) = sets-bits b kb m r (src.Const k) n mem st p tt (constant-mask m r k n h)
plain-passes b kb m r i n a mem st p (ClearsConst k h) = clears-bits b kb m r (src.Const k) n mem st p tt (constant-mask m r k n h)
plain-passes b kb m r i n a mem st p (ChangesReg op w k h l u) = changes_reg-passes b kb m r op w k n mem st p h l
plain-passes b kb m r i n a mem st p (ChangesData op w x h l u) = changes_data-passes b kb m r op w x n a st p h l u

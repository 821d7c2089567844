-- Guarded instructions.
use Rattle.std.proofs.Common.{◌≡◌, ℕ, ◌+◌, ◌-◌, ◌*◌, ◌%◌, ◌<◌, ◌≤◌, true, List, sym, ◌∙◌, subst, arith}
use Rattle.std.specs.List.{AllByRecursion}
use Rattle.machine_model.specs.Memory.{word_at}
use Rattle.machine_model.specs.Context.{reg, set_reg}
use Rattle.machine_model.specs.Operands.{sum_of, source_value, after_source, place_to, place_of, value_in, put_context, put_pairs, stored}
use Rattle.machine_model.specs.Alu.{alu}
use Rattle.machine_model.specs.Does.{does, two, one, change, push, call, passed, lowered, Effect}
use Rattle.msp_encode.specs.declared.instr.Width.{Width}
use Rattle.msp_encode.specs.declared.instr.Width.TheVariants.{Wide, Byte}
use Rattle.msp_encode.specs.declared.instr.Op2.{Op2}
use Rattle.msp_encode.specs.declared.instr.Op1.{Op1}
use Rattle.msp_encode.specs.declared.instr.Src.{Src}
use Rattle.msp_encode.specs.declared.instr.Src.TheVariants as src
use Rattle.msp_encode.specs.declared.instr.Dst.TheVariants as dst
use Rattle.msp_encode.specs.declared.instr.Instr.TheVariants as instr
use Rattle.msp_encode.specs.Forms.{writes, changes}
use Rattle.machine_laws.specs.Steady.{IsSteady, Bounds, AreBounds}
use Rattle.machine_laws.specs.Guarded.{StepsHigh, Passes, StoreLaw, StoreLeavesLaw, PushLaw, CallLaw, PopLaw, SpLaw}
use Rattle.machine_model.proofs.Values.{word-small}
use Rattle.machine_laws.proofs.Statuses.{alu-status, one-status}
use Rattle.machine_laws.proofs.Registers.{reg_other, pc_same, sp_same, steady-sr, steady-reg, steady-sp, source-read, source-r4, calm-quiet}
use Rattle.machine_laws.proofs.Operations.{behind, two-writes, one-changes, stored-inside}

-- ---- stores

store-two : (b : Bounds) (kb x : ℕ) (m r : List ℕ) (op : Op2) (w : Width) (s : Src) (n : ℕ) → AreBounds b → IsSteady kb b.low b.top r → reg r 0 + 2 * n < 65536
    → writes op ≡ true → StepsHigh s → b.lo ≤ reg r 4 → reg r 4 + x < b.hi → Passes b.lo b.hi b kb (reg r 0 + 2 * n) (does m r (instr.Two op w s (dst.Indexed 4 x)) n)
unfolding place_to put_context put_pairs
store-two b kb x m r op w s n a st p h q l u =
    let d = source-read kb b.low b.top w s r n st p (calm-quiet s q) in
    let four = source-r4 w s r n q in
    let ok = alu-status op w (source_value w s (sum_of (reg r 0) 2) m (passed r n)) (value_in w (place_to (dst.Indexed 4 x) (sum_of (reg r 0) (2 * n - 2)) (behind w s n r)) m (behind w s n r)) (reg (behind w s n r) 2) kb d.steady.status (d.steady.context.small 2) in
    subst (Passes b.lo b.hi b kb (reg r 0 + 2 * n)) (sym (two-writes op w s (dst.Indexed 4 x) n m r h)) record {
      steady = steady-sr kb b.low b.top _ _ d.steady ok.0 ok.1;
      pc = reg_other _ 2 _ 0 (omega arith) ∙ d.pc;
      inside = stored-inside w b.lo b.hi _ _ a.lo_even a.hi_even (omega (arith, a.hi_word)) (omega (arith, a.hi_word));
    }

store-one : (b : Bounds) (kb : ℕ) (m r : List ℕ) (op : Op1) (w : Width) (n : ℕ) → AreBounds b → IsSteady kb b.low b.top r → reg r 0 + 2 * n < 65536
    → changes op ≡ true → b.lo ≤ reg r 4 → reg r 4 < b.hi → Passes b.lo b.hi b kb (reg r 0 + 2 * n) (does m r (instr.One op w (src.Indirect 4)) n)
unfolding change after_source place_of put_context put_pairs
store-one b kb m r op w n a st p h l u =
    let d = source-read kb b.low b.top w (src.Indirect 4) r n st p tt in
    let four = source-r4 w (src.Indirect 4) r n tt in
    let ok = one-status op w (source_value w (src.Indirect 4) (sum_of (reg r 0) 2) m (passed r n)) (reg (passed r n) 2) kb d.steady.status (d.steady.context.small 2) in
    subst (Passes b.lo b.hi b kb (reg r 0 + 2 * n)) (sym (one-changes op w (src.Indirect 4) n m r h)) record {
      steady = steady-sr kb b.low b.top _ _ d.steady ok.0 ok.1;
      pc = reg_other _ 2 _ 0 (omega arith) ∙ d.pc;
      inside = stored-inside w b.lo b.hi _ _ a.lo_even a.hi_even (omega arith) (omega arith);
    }

pub store-stays : StoreLaw
store-stays b kb most m r (instr.Two op w s (dst.Indexed k x)) n a st p h l u =
    subst (λ (y : ℕ). Passes b.lo b.hi b kb (reg r 0 + 2 * n) (does m r (instr.Two op w s (dst.Indexed y x)) n)) (sym h.1) (store-two b kb x m r op w s n a st p h.0 h.3 l (omega (arith, h.2, u)))
store-stays b kb most m r (instr.Two op w s (dst.Reg k)) n a st p h l u = absurd h
store-stays b kb most m r (instr.Two op w s (dst.Symbolic x)) n a st p h l u = absurd h
store-stays b kb most m r (instr.Two op w s (dst.Absolute x)) n a st p h l u = absurd h
store-stays b kb most m r (instr.One op w (src.Indirect k)) n a st p h l u =
    subst (λ (y : ℕ). Passes b.lo b.hi b kb (reg r 0 + 2 * n) (does m r (instr.One op w (src.Indirect y)) n)) (sym h.1) (store-one b kb m r op w n a st p h.0 l (omega (arith, u)))
store-stays b kb most m r (instr.One op w (src.Reg k)) n a st p h l u = absurd h
store-stays b kb most m r (instr.One op w (src.Indexed k x)) n a st p h l u = absurd h
store-stays b kb most m r (instr.One op w (src.Symbolic x)) n a st p h l u = absurd h
store-stays b kb most m r (instr.One op w (src.Absolute x)) n a st p h l u = absurd h
store-stays b kb most m r (instr.One op w (src.AutoInc k)) n a st p h l u = absurd h
store-stays b kb most m r (instr.One op w (src.Immediate x)) n a st p h l u = absurd h
store-stays b kb most m r (instr.One op w (src.Const k)) n a st p h l u = absurd h
store-stays b kb most m r instr.Reti n a st p h l u = absurd h
store-stays b kb most m r (instr.Jump c k) n a st p h l u = absurd h

two-leaves : (m r : List ℕ) (op : Op2) (w : Width) (s : Src) (k x n : ℕ) → writes op ≡ true → StepsHigh s → reg (does m r (instr.Two op w s (dst.Indexed k x)) n).context 4 ≡ reg r 4
unfolding place_to put_context
two-leaves m r op w s k x n h q =
    subst (λ (e : Effect). reg e.context 4 ≡ reg r 4) (sym (two-writes op w s (dst.Indexed k x) n m r h))
    (reg_other (behind w s n r) 2 _ 4 (omega arith) ∙ source-r4 w s r n q)

one-leaves : (m r : List ℕ) (op : Op1) (w : Width) (k n : ℕ) → changes op ≡ true → reg (does m r (instr.One op w (src.Indirect k)) n).context 4 ≡ reg r 4
unfolding change place_of put_context
one-leaves m r op w k n h =
    subst (λ (e : Effect). reg e.context 4 ≡ reg r 4) (sym (one-changes op w (src.Indirect k) n m r h))
    (reg_other (behind w (src.Indirect k) n r) 2 _ 4 (omega arith) ∙ source-r4 w (src.Indirect k) r n tt)

pub store-leaves : StoreLeavesLaw
store-leaves most m r (instr.Two op w s (dst.Indexed k x)) n h = two-leaves m r op w s k x n h.0 h.3
store-leaves most m r (instr.Two op w s (dst.Reg k)) n h = absurd h
store-leaves most m r (instr.Two op w s (dst.Symbolic x)) n h = absurd h
store-leaves most m r (instr.Two op w s (dst.Absolute x)) n h = absurd h
store-leaves most m r (instr.One op w (src.Indirect k)) n h = one-leaves m r op w k n h.0
store-leaves most m r (instr.One op w (src.Reg k)) n h = absurd h
store-leaves most m r (instr.One op w (src.Indexed k x)) n h = absurd h
store-leaves most m r (instr.One op w (src.Symbolic x)) n h = absurd h
store-leaves most m r (instr.One op w (src.Absolute x)) n h = absurd h
store-leaves most m r (instr.One op w (src.AutoInc k)) n h = absurd h
store-leaves most m r (instr.One op w (src.Immediate x)) n h = absurd h
store-leaves most m r (instr.One op w (src.Const k)) n h = absurd h
store-leaves most m r instr.Reti n h = absurd h
store-leaves most m r (instr.Jump c k) n h = absurd h

-- ---- pushes and calls

pushed-inside : (w : Width) (low top sp v : ℕ) → sp % 2 ≡ 0 → low ≤ sp → sp + 1 < top → AllByRecursion (λ (p : ℕ × ℕ). (low ≤ p.0) × (p.0 < top)) (stored w sp v)
pushed-inside Wide low top sp v e l h = ((omega arith, omega arith), ((omega arith, omega arith), tt))
pushed-inside Byte low top sp v e l h = ((l, omega arith), tt)

pub push-stays : PushLaw
unfolding does one push
push-stays b kb m r w s n st p q room =
    let d = source-read kb b.low b.top w s r n st p (calm-quiet s q) in
    let sp = sp_same (behind w s n r) (sum_of (reg (behind w s n r) 1) 65534) d.steady.context in
    record {
      steady = steady-sp kb b.low b.top _ _ d.steady (omega (arith, d.sp, d.steady.context.sp_even, st.context.small 1)) (omega (arith, d.sp, d.steady.context.sp_even, d.steady.within, st.context.small 1)) (omega arith);
      pc = reg_other _ 1 _ 0 (omega arith) ∙ d.pc;
      inside = pushed-inside w b.low b.top _ _ (omega (arith, sp)) (omega (arith, sp, d.sp, d.steady.context.sp_even, st.context.small 1)) (omega (arith, sp, d.sp, d.steady.context.sp_even, d.steady.within, st.context.small 1));
    }

pub call-stays : CallLaw
unfolding does one call source_value after_source
call-stays b kb m r w x n st e f room =
    let s1 = steady-reg kb b.low b.top r 0 (sum_of (reg r 0) (2 * n)) st (omega arith) (omega arith) (omega arith) in
    let sp1 = reg_other r 0 (sum_of (reg r 0) (2 * n)) 1 (omega arith) in
    let sp2 = sp_same (passed r n) (sum_of (reg (passed r n) 1) 65534) s1.context in
    let s2 = steady-sp kb b.low b.top (passed r n) (sum_of (reg (passed r n) 1) 65534) s1 (omega (arith, sp1, st.context.sp_even, st.context.small 1)) (omega (arith, sp1, st.context.sp_even, st.within, st.context.small 1)) (omega arith) in
    let sp3 = reg_other (lowered (passed r n)) 0 (x % 65536) 1 (omega arith) in
    record {
      done = record {
        steady = steady-reg kb b.low b.top (lowered (passed r n)) 0 (x % 65536) s2 (omega arith) (omega arith) (omega arith);
        pc = pc_same (lowered (passed r n)) (x % 65536) s2.context ∙ omega arith;
        inside = pushed-inside Wide b.low b.top _ (reg (lowered (passed r n)) 0) s2.context.sp_even (omega (arith, sp1, sp2, st.context.sp_even, st.context.small 1)) (omega (arith, sp1, sp2, st.context.sp_even, st.within, st.context.small 1));
      };
      pushed = omega (arith, sp1, sp2, sp3, st.context.sp_even, st.within, st.context.small 1);
    }

-- ---- pops and new stack pointers

pub pop-stays : PopLaw
unfolding does two source_value after_source place_to put_context put_pairs alu
pop-stays b kb m r d n mem te tf st p l u ne =
    let q = passed r n in
    let s1 = steady-reg kb b.low b.top r 0 (sum_of (reg r 0) (2 * n)) st (omega arith) (omega arith) (omega arith) in
    let pc1 = pc_same r (sum_of (reg r 0) (2 * n)) st.context in
    let sp1 = reg_other r 0 (sum_of (reg r 0) (2 * n)) 1 (omega arith) in
    let v = sum_of (reg (passed r n) 1) 2 in
    let s2 = steady-sp kb b.low b.top (passed r n) (sum_of (reg (passed r n) 1) 2) s1 (omega (arith, sp1, st.context.sp_even, st.room, st.within, ne, te, tf)) (omega (arith, sp1, st.context.sp_even, st.within, ne, te, tf)) (omega arith) in
    let q2 = set_reg (passed r n) 1 (sum_of (reg (passed r n) 1) 2) in
    let s3 = steady-sr kb b.low b.top q2 (reg q2 2) s2 s2.status (s2.context.small 2) in
    record {
      steady = steady-reg kb b.low b.top (set_reg q2 2 (reg q2 2)) d (word_at m (reg (passed r n) 1)) s3 (omega arith) (omega arith) (word-small m _ mem);
      pc = reg_other (set_reg q2 2 (reg q2 2)) d (word_at m (reg (passed r n) 1)) 0 (omega arith) ∙ reg_other q2 2 (reg q2 2) 0 (omega arith) ∙ reg_other (passed r n) 1 v 0 (omega arith) ∙ pc1 ∙ omega (arith, p, st.context.pc_even);
      inside = tt;
    }

pub sp-stays : SpLaw
unfolding does two source_value after_source place_to put_context put_pairs alu
sp-stays b kb m r n le st p l u =
    let s1 = steady-reg kb b.low b.top r 0 (sum_of (reg r 0) (2 * n)) st (omega arith) (omega arith) (omega arith) in
    let pc1 = pc_same r (sum_of (reg r 0) (2 * n)) st.context in
    let r4 = reg_other r 0 (sum_of (reg r 0) (2 * n)) 4 (omega arith) in
    let q = passed r n in
    let s2 = steady-sr kb b.low b.top (passed r n) (reg (passed r n) 2) s1 s1.status (s1.context.small 2) in
    record {
      steady = steady-sp kb b.low b.top (set_reg q 2 (reg q 2)) (reg q 4 % 65536) s2 (omega (arith, r4, le, l, st.context.small 4)) (omega (arith, r4, u, st.context.small 4)) (omega arith);
      pc = reg_other (set_reg q 2 (reg q 2)) 1 (reg q 4 % 65536) 0 (omega arith) ∙ reg_other q 2 (reg q 2) 0 (omega arith) ∙ pc1 ∙ omega (arith, p, st.context.pc_even);
      inside = tt;
    }

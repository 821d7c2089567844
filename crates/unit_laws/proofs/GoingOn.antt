-- PC behind an instruction.
use Rattle.std.proofs.Common.{◌≡◌, ◌≢◌, ℕ, ◌-◌, ◌*◌, ◌%◌, ◌<◌, Bool, true, false, List, length, refl, sym, ◌∙◌, arith}
use Rattle.std.specs.Prelude.{if◌then◌else◌}
use Rattle.std.proofs.lemmas.List.{get_or-set_same}
use Rattle.machine_model.specs.Memory.{even}
use Rattle.machine_model.specs.Context.{reg, set_reg, IsContext}
use Rattle.machine_model.specs.Operands.{sum_of, source_value, after_source, place_to, place_of, value_in, put_context}
use Rattle.machine_model.specs.Alu.{alu}
use Rattle.machine_model.specs.Does.{does, two, one, change, push, call, passed, lowered}
use Rattle.msp_encode.specs.declared.instr.Width.{Width}
use Rattle.msp_encode.specs.declared.instr.Width.TheVariants.{Wide}
use Rattle.msp_encode.specs.declared.instr.Op2.{Op2}
use Rattle.msp_encode.specs.declared.instr.Op1.{Op1}
use Rattle.msp_encode.specs.declared.instr.Op1.TheVariants.{Rrc, Swpb, Rra, Sxt, Push, Call}
use Rattle.msp_encode.specs.declared.instr.Src.{Src}
use Rattle.msp_encode.specs.declared.instr.Src.TheVariants as src
use Rattle.msp_encode.specs.declared.instr.Dst.{Dst}
use Rattle.msp_encode.specs.declared.instr.Dst.TheVariants as dst
use Rattle.msp_encode.specs.declared.instr.Instr.TheVariants as instr
use Rattle.msp_encode.specs.Forms.{writes}
use Rattle.unit_laws.specs.Guarded.{Steps}
use Rattle.unit_laws.specs.Rows.{SrcFree, DstFree, GoesOnLaw, GoesToLaw, branch}
use Rattle.unit_laws.proofs.Guarded.{set-length, reg-other, after-other}

-- PC is what it is set to, with bit 0 cleared
pub pc-set : (r : List ℕ) (v : ℕ) → length r ≡ 16 → reg (set_reg r 0 v) 0 ≡ even v
unfolding set_reg
pc-set r v h = get_or-set_same r 0 (even v) 0 (omega (arith, h))

pc-kept : (r : List ℕ) (n v : ℕ) → n ≢ 0 → reg (set_reg r n v) 0 ≡ reg r 0
pc-kept r n v d = reg-other r n v 0 (λ e. d (sym e))

pc-passed : (r : List ℕ) (n : ℕ) → IsContext r → reg (passed r n) 0 ≡ sum_of (reg r 0) (2 * n)
pc-passed r n h = pc-set r (sum_of (reg r 0) (2 * n)) h.words ∙ omega (arith, h.pc_even)

steps-not : (s : Src) → SrcFree s → Steps s 0 → ⊥
steps-not (src.AutoInc n) f e = f.0 e
steps-not (src.Reg n) f e = e
steps-not (src.Indexed n x) f e = e
steps-not (src.Symbolic x) f e = e
steps-not (src.Absolute x) f e = e
steps-not (src.Indirect n) f e = e
steps-not (src.Immediate x) f e = e
steps-not (src.Const k) f e = e

pc-source : (w : Width) (s : Src) (r : List ℕ) (n : ℕ) → IsContext r → SrcFree s → reg (after_source w s (passed r n)) 0 ≡ sum_of (reg r 0) (2 * n)
pc-source w s r n h f = after-other w s (passed r n) 0 (steps-not s f) ∙ pc-passed r n h

pc-put : (d : Dst) (at v : ℕ) (q r : List ℕ) → DstFree d → reg (put_context (place_to d at q) v r) 0 ≡ reg r 0
unfolding place_to put_context
pc-put (dst.Reg n) at v q r f = pc-kept r n v f.0
pc-put (dst.Indexed n x) at v q r f = refl
pc-put (dst.Symbolic x) at v q r f = absurd f
pc-put (dst.Absolute x) at v q r f = refl

pc-change : (s : Src) (at v : ℕ) (q r : List ℕ) → SrcFree s → reg (put_context (place_of s at q) v r) 0 ≡ reg r 0
unfolding place_of put_context
pc-change (src.Reg n) at v q r f = pc-kept r n v f.0
pc-change (src.Indexed n x) at v q r f = refl
pc-change (src.Symbolic x) at v q r f = absurd f
pc-change (src.Absolute x) at v q r f = refl
pc-change (src.Indirect n) at v q r f = refl
pc-change (src.AutoInc n) at v q r f = refl
pc-change (src.Immediate x) at v q r f = pc-kept r 3 v (omega arith)
pc-change (src.Const k) at v q r f = pc-kept r 3 v (omega arith)

pc-either : (b : Bool) (p q : List ℕ) (v : ℕ) → reg p 0 ≡ v → reg q 0 ≡ v → reg (if b then p else q) 0 ≡ v
pc-either true p q v e f = e
pc-either false p q v e f = f

two-on : (op : Op2) (w : Width) (s : Src) (d : Dst) (n : ℕ) (m r : List ℕ) → IsContext r → SrcFree s → DstFree d → reg (two op w s d n m r).context 0 ≡ sum_of (reg r 0) (2 * n)
unfolding two
two-on op w s d n m r h f g =
    let r1 = passed r n in
    let r2 = after_source w s r1 in
    let p = place_to d (sum_of (reg r 0) (2 * n - 2)) r2 in
    let o = alu op w (source_value w s (sum_of (reg r 0) 2) m r1) (value_in w p m r2) (reg r2 2) in
    let r3 = set_reg r2 2 o.status in
    let e : reg r3 0 ≡ sum_of (reg r 0) (2 * n) = pc-kept r2 2 o.status (omega arith) ∙ pc-source w s r n h f in
    pc-either (writes op) (put_context p o.value r3) r3 _ (pc-put d _ o.value r2 r3 g ∙ e) e

change-on : (op : Op1) (w : Width) (s : Src) (n : ℕ) (m r : List ℕ) → IsContext r → SrcFree s → reg (change op w s n m r).context 0 ≡ sum_of (reg r 0) (2 * n)
unfolding change
change-on op w s n m r h f =
    pc-change s _ _ (passed r n) _ f ∙ (pc-kept (after_source w s (passed r n)) 2 _ (omega arith) ∙ pc-source w s r n h f)

push-on : (w : Width) (s : Src) (n : ℕ) (m r : List ℕ) → IsContext r → SrcFree s → reg (push w s n m r).context 0 ≡ sum_of (reg r 0) (2 * n)
unfolding push
push-on w s n m r h f = pc-kept (after_source w s (passed r n)) 1 _ (omega arith) ∙ pc-source w s r n h f

pub goes-on : GoesOnLaw
unfolding does one
goes-on m r (instr.Two op w s d) n h f = two-on op w s d n m r h f.0 f.1
goes-on m r (instr.One Push w s) n h f = push-on w s n m r h f
goes-on m r (instr.One Call w s) n h f = absurd f
goes-on m r (instr.One Rrc w s) n h f = change-on Rrc w s n m r h f
goes-on m r (instr.One Swpb w s) n h f = change-on Swpb w s n m r h f
goes-on m r (instr.One Rra w s) n h f = change-on Rra w s n m r h f
goes-on m r (instr.One Sxt w s) n h f = change-on Sxt w s n m r h f
goes-on m r instr.Reti n h f = absurd f
goes-on m r (instr.Jump c k) n h f = absurd f

-- ---- a branch and a call of a place

branches-to : (m r : List ℕ) (x : ℕ) → IsContext r → x < 65536 → reg (does m r (branch x) 2).context 0 ≡ even x
unfolding does two source_value after_source place_to value_in put_context alu
branches-to m r x h b = pc-set (set_reg (passed r 2) 2 _) (x % 65536) (set-length (passed r 2) 2 _ ∙ (set-length r 0 _ ∙ h.words)) ∙ omega (arith, b)

calls-to : (m r : List ℕ) (x : ℕ) → IsContext r → x < 65536 → reg (does m r (instr.One Call Wide (src.Immediate x)) 2).context 0 ≡ even x
unfolding does one call source_value after_source
calls-to m r x h b = pc-set (lowered (passed r 2)) (x % 65536) (set-length (passed r 2) 1 _ ∙ (set-length r 0 _ ∙ h.words)) ∙ omega (arith, b)

pub goes-to : GoesToLaw
goes-to m r x h b = record { branches = branches-to m r x h b; calls = calls-to m r x h b }

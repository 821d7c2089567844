-- Where an instruction that goes on stands doesn't show in what it does, but for PC.
use Rattle.std.proofs.Common.{◌≡◌, ◌≢◌, ℕ, zero, suc, ◌-◌, ◌*◌, Bool, true, false, List, [], ◌∷◌, set, refl, sym, ap, ◌∙◌, subst, arith}
use Rattle.std.proofs.Math.Path.{ap₂}
use Rattle.std.specs.Prelude.{if◌then◌else◌}
use Rattle.machine_model.specs.Memory.{even}
use Rattle.machine_model.specs.Context.{reg, set_reg}
use Rattle.machine_model.specs.Operands.{sum_of, low, step, source_value, after_source, place_to, place_of, value_in, put_context, put_pairs, stored}
use Rattle.machine_model.specs.Alu.{alu, alu_one}
use Rattle.machine_model.specs.Does.{does, two, one, change, push, passed, lowered}
use Rattle.machine_model.specs.declared.place.Outcome.{Outcome}
use Rattle.machine_model.specs.declared.place.Place.{Place}
use Rattle.machine_model.specs.declared.place.Place.TheVariants.{InReg, At}
use Rattle.msp_encode.specs.declared.instr.Width.{Width}
use Rattle.msp_encode.specs.declared.instr.Op2.{Op2}
use Rattle.msp_encode.specs.declared.instr.Op1.{Op1}
use Rattle.msp_encode.specs.declared.instr.Op1.TheVariants.{Rrc, Swpb, Rra, Sxt, Push, Call}
use Rattle.msp_encode.specs.declared.instr.Src.{Src}
use Rattle.msp_encode.specs.declared.instr.Src.TheVariants as src
use Rattle.msp_encode.specs.declared.instr.Dst.{Dst}
use Rattle.msp_encode.specs.declared.instr.Dst.TheVariants as dst
use Rattle.msp_encode.specs.declared.instr.Instr.{Instr}
use Rattle.msp_encode.specs.declared.instr.Instr.TheVariants as instr
use Rattle.msp_encode.specs.Forms.{writes}
use Rattle.unit_laws.specs.Rows.{SrcFree, DstFree, GoesOn, SameButPc, PlaceLaw}
use Rattle.unit_laws.proofs.Frame.{two_from}
use Rattle.unit_laws.proofs.Guarded.{reg-other}
use Rattle.unit_laws.proofs.IntoR4.{source-pc}

-- ---- contexts that differ in PC at most

record Alike (r q : List ℕ) : Type 0 where
  pub same : set_reg r 0 0 ≡ set_reg q 0 0

-- PC set again forgets the first
pub forgets : (r : List ℕ) (p v : ℕ) → set_reg (set_reg r 0 p) 0 v ≡ set_reg r 0 v
unfolding set_reg
forgets [] p v = refl
forgets (a ∷ r) p v = refl

-- PC and another register are set in either order
below-swaps : (r : List ℕ) (n v : ℕ) → set (set r (suc n) v) 0 (even 0) ≡ set (set r 0 (even 0)) (suc n) v
below-swaps [] n v = refl
below-swaps (a ∷ r) n v = refl

swaps : (r : List ℕ) (n v : ℕ) → n ≢ 0 → set_reg (set_reg r n v) 0 0 ≡ set_reg (set_reg r 0 0) n v
unfolding set_reg
swaps r zero v d = absurd (d refl)
swaps r (suc zero) v d = below-swaps r 0 (even v)
swaps r (suc (suc zero)) v d = below-swaps r 1 v
swaps r (suc (suc (suc zero))) v d = refl
swaps r (suc (suc (suc (suc n)))) v d = grind (arith, below-swaps r (suc (suc (suc n))) v)

-- the other registers are the same
reg-alike : (r q : List ℕ) (n : ℕ) → Alike r q → n ≢ 0 → reg r n ≡ reg q n
reg-alike r q n h d = sym (reg-other r 0 0 n d) ∙ (ap (λ (c : List ℕ). reg c n) h.same ∙ reg-other q 0 0 n d)

-- PC may be set to any values
pc-alike : (r q : List ℕ) (u v : ℕ) → Alike r q → Alike (set_reg r 0 u) (set_reg q 0 v)
pc-alike r q u v h = record { same = forgets r u 0 ∙ (h.same ∙ sym (forgets q v 0)) }

-- and another register to the same
set-alike : (r q : List ℕ) (n u v : ℕ) → n ≢ 0 → Alike r q → u ≡ v → Alike (set_reg r n u) (set_reg q n v)
set-alike r q n u v d h e = record { same = swaps r n u d ∙ (ap₂ (λ (c : List ℕ) (k : ℕ). set_reg c n k) h.same e ∙ sym (swaps q n v d)) }

either-alike : (b : Bool) (r q s t : List ℕ) → Alike r q → Alike s t → Alike (if b then r else s) (if b then q else t)
either-alike true r q s t h g = h
either-alike false r q s t h g = g

-- ---- operands

-- a source's value behind the instruction, wherever its word lies
source-alike : (w : Width) (s : Src) (a b n : ℕ) (m r q : List ℕ) → SrcFree s → Alike r q → source_value w s a m (passed r n) ≡ source_value w s b m (passed q n)
source-alike w s a b n m r q f h =
    source-pc w s a m r _ f ∙ (sym (source-pc w s 0 m r 0 f) ∙ (ap (source_value w s 0 m) h.same ∙ (source-pc w s 0 m q 0 f ∙ sym (source-pc w s b m q _ f))))

after-alike : (w : Width) (s : Src) (r q : List ℕ) → SrcFree s → Alike r q → Alike (after_source w s r) (after_source w s q)
unfolding after_source
after-alike w (src.AutoInc n) r q f h = set-alike r q n _ _ f.0 h (ap (λ (v : ℕ). sum_of v (step w n)) (reg-alike r q n h f.0))
after-alike w (src.Reg n) r q f h = h
after-alike w (src.Indexed n x) r q f h = h
after-alike w (src.Symbolic x) r q f h = h
after-alike w (src.Absolute x) r q f h = h
after-alike w (src.Indirect n) r q f h = h
after-alike w (src.Immediate x) r q f h = h
after-alike w (src.Const k) r q f h = h

-- a place that isn't PC
abbrev IsApart : Place → Type 0
IsApart (InReg n) = n ≢ 0
IsApart (At a) = Unit {0}

place-alike : (d : Dst) (a b : ℕ) (r q : List ℕ) → DstFree d → Alike r q → place_to d a r ≡ place_to d b q
unfolding place_to
place-alike (dst.Reg n) a b r q f h = refl
place-alike (dst.Indexed n x) a b r q f h = ap (λ (v : ℕ). At (sum_of x v)) (reg-alike r q n h f.0)
place-alike (dst.Symbolic x) a b r q f h = absurd f
place-alike (dst.Absolute x) a b r q f h = refl

place-apart : (d : Dst) (a : ℕ) (r : List ℕ) → DstFree d → IsApart (place_to d a r)
unfolding place_to
place-apart (dst.Reg n) a r f = f.0
place-apart (dst.Indexed n x) a r f = tt
place-apart (dst.Symbolic x) a r f = absurd f
place-apart (dst.Absolute x) a r f = tt

operand-alike : (s : Src) (a b : ℕ) (r q : List ℕ) → SrcFree s → Alike r q → place_of s a r ≡ place_of s b q
unfolding place_of
operand-alike (src.Reg n) a b r q f h = refl
operand-alike (src.Indexed n x) a b r q f h = ap (λ (v : ℕ). At (sum_of x v)) (reg-alike r q n h f.0)
operand-alike (src.Symbolic x) a b r q f h = absurd f
operand-alike (src.Absolute x) a b r q f h = refl
operand-alike (src.Indirect n) a b r q f h = ap At (reg-alike r q n h f.0)
operand-alike (src.AutoInc n) a b r q f h = ap At (reg-alike r q n h f.0)
operand-alike (src.Immediate x) a b r q f h = refl
operand-alike (src.Const k) a b r q f h = refl

operand-apart : (s : Src) (a : ℕ) (r : List ℕ) → SrcFree s → IsApart (place_of s a r)
unfolding place_of
operand-apart (src.Reg n) a r f = f.0
operand-apart (src.Indexed n x) a r f = tt
operand-apart (src.Symbolic x) a r f = absurd f
operand-apart (src.Absolute x) a r f = tt
operand-apart (src.Indirect n) a r f = tt
operand-apart (src.AutoInc n) a r f = tt
operand-apart (src.Immediate x) a r f = omega arith
operand-apart (src.Const k) a r f = omega arith

value-alike : (w : Width) (p : Place) (m r q : List ℕ) → IsApart p → Alike r q → value_in w p m r ≡ value_in w p m q
unfolding value_in
value-alike w (InReg n) m r q f h = ap (low w) (reg-alike r q n h f)
value-alike w (At a) m r q f h = refl

put-alike : (p : Place) (u v : ℕ) (r q : List ℕ) → IsApart p → Alike r q → u ≡ v → Alike (put_context p u r) (put_context p v q)
unfolding put_context
put-alike (InReg n) u v r q f h e = set-alike r q n u v f h e
put-alike (At a) u v r q f h e = h

-- the status, after an outcome
status-alike : (r q : List ℕ) (o k : Outcome) → Alike r q → o ≡ k → Alike (set_reg r 2 o.status) (set_reg q 2 k.status)
status-alike r q o k h e = set-alike r q 2 _ _ (omega arith) h (ap (λ (x : Outcome). x.status) e)

-- ---- instructions

-- from a place and values on
from-alike : (op : Op2) (w : Width) (p : Place) (v d : ℕ) (r q : List ℕ) → IsApart p → Alike r q → SameButPc (two_from op w p v d r) (two_from op w p v d q)
from-alike op w p v d r q f h =
    let o = alu op w v d (reg r 2) in
    let k = alu op w v d (reg q 2) in
    let e : o ≡ k = ap (alu op w v d) (reg-alike r q 2 h (omega arith)) in
    let three = status-alike r q o k h e in
    record {
      context = (either-alike (writes op) _ _ _ _ (put-alike p o.value k.value _ _ f three (ap (λ (x : Outcome). x.value) e)) three).same;
      written = ap (λ (x : Outcome). if writes op then put_pairs w p x.value else []) e;
    }

two-alike : (op : Op2) (w : Width) (s : Src) (d : Dst) (n : ℕ) (m r q : List ℕ) → SrcFree s → DstFree d → Alike r q → SameButPc (two op w s d n m r) (two op w s d n m q)
unfolding two
two-alike op w s d n m r q f g h =
    let at = sum_of (reg q 0) (2 * n - 2) in
    let r2 = after_source w s (passed r n) in
    let q2 = after_source w s (passed q n) in
    let v = source_value w s (sum_of (reg q 0) 2) m (passed q n) in
    let p = place_to d at q2 in
    let two : Alike r2 q2 = after-alike w s (passed r n) (passed q n) f (pc-alike r q _ _ h) in
    subst (λ (x : ℕ). let p = place_to d (sum_of (reg r 0) (2 * n - 2)) r2 in SameButPc (two_from op w p x (value_in w p m r2) r2) (two_from op w (place_to d at q2) v (value_in w (place_to d at q2) m q2) q2))
    (sym (source-alike w s (sum_of (reg r 0) 2) (sum_of (reg q 0) 2) n m r q f h))
    (subst (λ (x : Place). SameButPc (two_from op w x v (value_in w x m r2) r2) (two_from op w p v (value_in w p m q2) q2)) (sym (place-alike d _ at r2 q2 g two))
    (subst (λ (x : ℕ). SameButPc (two_from op w p v x r2) (two_from op w p v (value_in w p m q2) q2)) (sym (value-alike w p m r2 q2 (place-apart d at q2 g) two))
    (from-alike op w p v (value_in w p m q2) r2 q2 (place-apart d at q2 g) two)))

change-alike : (op : Op1) (w : Width) (s : Src) (n : ℕ) (m r q : List ℕ) → SrcFree s → Alike r q → SameButPc (change op w s n m r) (change op w s n m q)
unfolding change
change-alike op w s n m r q f h =
    let r2 = after_source w s (passed r n) in
    let q2 = after_source w s (passed q n) in
    let one : Alike (passed r n) (passed q n) = pc-alike r q _ _ h in
    let two : Alike r2 q2 = after-alike w s (passed r n) (passed q n) f one in
    let o = alu_one op w (source_value w s (sum_of (reg r 0) 2) m (passed r n)) (reg r2 2) in
    let k = alu_one op w (source_value w s (sum_of (reg q 0) 2) m (passed q n)) (reg q2 2) in
    let e : o ≡ k = ap₂ (alu_one op w) (source-alike w s _ _ n m r q f h) (reg-alike r2 q2 2 two (omega arith)) in
    let p = place_of s (sum_of (reg q 0) 2) (passed q n) in
    let there : place_of s (sum_of (reg r 0) 2) (passed r n) ≡ p = operand-alike s _ _ (passed r n) (passed q n) f one in
    let put : Alike (put_context p o.value (set_reg r2 2 o.status)) (put_context p k.value (set_reg q2 2 k.status)) =
    put-alike p o.value k.value _ _ (operand-apart s _ (passed q n) f) (status-alike r2 q2 o k two e) (ap (λ (x : Outcome). x.value) e) in
    record {
      context = ap (λ (x : Place). set_reg (put_context x o.value (set_reg r2 2 o.status)) 0 0) there ∙ put.same;
      written = ap₂ (λ (x : Place) (c : Outcome). put_pairs w x c.value) there e;
    }

push-alike : (w : Width) (s : Src) (n : ℕ) (m r q : List ℕ) → SrcFree s → Alike r q → SameButPc (push w s n m r) (push w s n m q)
unfolding push
push-alike w s n m r q f h =
    let r2 = after_source w s (passed r n) in
    let q2 = after_source w s (passed q n) in
    let two : Alike r2 q2 = after-alike w s (passed r n) (passed q n) f (pc-alike r q _ _ h) in
    let down : Alike (lowered r2) (lowered q2) = set-alike r2 q2 1 _ _ (omega arith) two (ap (λ (x : ℕ). sum_of x 65534) (reg-alike r2 q2 1 two (omega arith))) in
    record {
      context = down.same;
      written = ap₂ (stored w) (reg-alike (lowered r2) (lowered q2) 1 down (omega arith)) (source-alike w s _ _ n m r q f h);
    }

does-alike : (m r q : List ℕ) (i : Instr) (n : ℕ) → GoesOn i → Alike r q → SameButPc (does m r i n) (does m q i n)
unfolding does one
does-alike m r q (instr.Two op w s d) n f h = two-alike op w s d n m r q f.0 f.1 h
does-alike m r q (instr.One Push w s) n f h = push-alike w s n m r q f h
does-alike m r q (instr.One Call w s) n f h = absurd f
does-alike m r q (instr.One Rrc w s) n f h = change-alike Rrc w s n m r q f h
does-alike m r q (instr.One Swpb w s) n f h = change-alike Swpb w s n m r q f h
does-alike m r q (instr.One Rra w s) n f h = change-alike Rra w s n m r q f h
does-alike m r q (instr.One Sxt w s) n f h = change-alike Sxt w s n m r q f h
does-alike m r q instr.Reti n f h = absurd f
does-alike m r q (instr.Jump c k) n f h = absurd f

pub place : PlaceLaw
place m r p q i n f = does-alike m (set_reg r 0 p) (set_reg r 0 q) i n f (pc-alike r r p q (record { same = refl }))

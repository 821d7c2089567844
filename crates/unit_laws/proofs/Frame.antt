-- Instructions that avoid R4 and R5.
use Rattle.std.proofs.Common.{◌≡◌, ◌≢◌, ℕ, zero, suc, ◌-◌, ◌*◌, Bool, true, false, List, [], ◌∷◌, set, refl, sym, ap, ◌∙◌, arith}
use Rattle.std.specs.Prelude.{if◌then◌else◌, ◌==◌}
use Rattle.std.proofs.lemmas.List.{get_or-set_other}
use Rattle.machine_model.specs.Memory.{even, word_at}
use Rattle.machine_model.specs.Context.{reg, set_reg}
use Rattle.machine_model.specs.Operands.{sum_of, low, load, step, source_value, after_source, place_to, place_of, value_in, put_context, put_pairs, stored}
use Rattle.machine_model.specs.Alu.{alu, alu_one}
use Rattle.machine_model.specs.Does.{does, two, one, change, push, call, reti, jump, holds, target, passed, lowered, raised, Effect}
use Rattle.machine_model.specs.declared.place.Place.{Place}
use Rattle.machine_model.specs.declared.place.Place.TheVariants.{InReg, At}
use Rattle.msp_encode.specs.declared.instr.Width.{Width}
use Rattle.msp_encode.specs.declared.instr.Width.TheVariants.{Wide}
use Rattle.msp_encode.specs.declared.instr.Op2.{Op2}
use Rattle.msp_encode.specs.declared.instr.Op1.{Op1}
use Rattle.msp_encode.specs.declared.instr.Op1.TheVariants.{Rrc, Swpb, Rra, Sxt, Push, Call}
use Rattle.msp_encode.specs.declared.instr.Src.{Src}
use Rattle.msp_encode.specs.declared.instr.Src.TheVariants as src
use Rattle.msp_encode.specs.declared.instr.Dst.{Dst}
use Rattle.msp_encode.specs.declared.instr.Dst.TheVariants as dst
use Rattle.msp_encode.specs.declared.instr.Instr.TheVariants as instr
use Rattle.msp_encode.specs.Forms.{writes}
use Rattle.unit_laws.specs.Frame.{spread, spread_effect, Avoids, SrcAvoids, DstAvoids, FrameLaw}

set-swap : (l : List ℕ) (i j a b : ℕ) → i ≢ j → set (set l i a) j b ≡ set (set l j b) i a
set-swap [] i j a b d = refl
set-swap (v ∷ l) zero zero a b d = absurd (d refl)
set-swap (v ∷ l) zero (suc j) a b d = refl
set-swap (v ∷ l) (suc i) zero a b d = refl
set-swap (v ∷ l) (suc i) (suc j) a b d = ap (λ (q : List ℕ). v ∷ q) (set-swap l i j a b (λ e. d (ap suc e)))

pub spread-reg : (r : List ℕ) (x y n : ℕ) → Avoids n → reg (spread r x y) n ≡ reg r n
spread-reg r x y n a = get_or-set_other (set r 4 x) 5 n y 0 a.1 ∙ get_or-set_other r 4 n x 0 a.0

spread-put : (r : List ℕ) (x y n v : ℕ) → Avoids n → set (spread r x y) n v ≡ spread (set r n v) x y
spread-put r x y n v a = set-swap (set r 4 x) 5 n y v (λ e. a.1 (sym e)) ∙ ap (λ (q : List ℕ). set q 5 y) (set-swap r 4 n x v (λ e. a.0 (sym e)))

pick-spread : (b : Bool) (p q : List ℕ) (x y : ℕ) → (if b then spread p x y else spread q x y) ≡ spread (if b then p else q) x y
pick-spread true p q x y = refl
pick-spread false p q x y = refl

pub spread-set : (r : List ℕ) (x y n v : ℕ) → Avoids n → set_reg (spread r x y) n v ≡ spread (set_reg r n v) x y
unfolding set_reg
spread-set r x y zero v a = spread-put r x y 0 (even v) a
spread-set r x y (suc zero) v a = spread-put r x y 1 (even v) a
spread-set r x y (suc (suc zero)) v a = spread-put r x y 2 v a
spread-set r x y (suc (suc (suc zero))) v a = refl
spread-set r x y (suc (suc (suc (suc n)))) v a = grind (arith, spread-put r x y (suc (suc (suc (suc n)))) v a)

pub none : Avoids 0
none = (omega arith, omega arith)

one-free : Avoids 1
one-free = (omega arith, omega arith)

pub two-free : Avoids 2
two-free = (omega arith, omega arith)

pub passed-spread : (r : List ℕ) (x y n : ℕ) → passed (spread r x y) n ≡ spread (passed r n) x y
passed-spread r x y n = ap (λ (a : ℕ). set_reg (spread r x y) 0 (sum_of a (2 * n))) (spread-reg r x y 0 none) ∙ spread-set r x y 0 _ none

pub source-spread : (w : Width) (s : Src) (at : ℕ) (m r : List ℕ) (x y : ℕ) → SrcAvoids s → source_value w s at m (spread r x y) ≡ source_value w s at m r
unfolding source_value
source-spread w (src.Reg n) at m r x y a = ap (λ (v : ℕ). low w (if n == 0 then at else v)) (spread-reg r x y n a)
source-spread w (src.Indexed n k) at m r x y a = ap (λ (v : ℕ). load w m (sum_of k v)) (spread-reg r x y n a)
source-spread w (src.Symbolic k) at m r x y a = refl
source-spread w (src.Absolute k) at m r x y a = refl
source-spread w (src.Indirect n) at m r x y a = ap (load w m) (spread-reg r x y n a)
source-spread w (src.AutoInc n) at m r x y a = ap (load w m) (spread-reg r x y n a)
source-spread w (src.Immediate k) at m r x y a = refl
source-spread w (src.Const k) at m r x y a = refl

pub after-spread : (w : Width) (s : Src) (r : List ℕ) (x y : ℕ) → SrcAvoids s → after_source w s (spread r x y) ≡ spread (after_source w s r) x y
unfolding after_source
after-spread w (src.AutoInc n) r x y a = ap (λ (v : ℕ). set_reg (spread r x y) n (sum_of v (step w n))) (spread-reg r x y n a) ∙ spread-set r x y n _ a
after-spread w (src.Reg n) r x y a = refl
after-spread w (src.Indexed n k) r x y a = refl
after-spread w (src.Symbolic k) r x y a = refl
after-spread w (src.Absolute k) r x y a = refl
after-spread w (src.Indirect n) r x y a = refl
after-spread w (src.Immediate k) r x y a = refl
after-spread w (src.Const k) r x y a = refl

abbrev pub PlaceAvoids : Place → Type 0
PlaceAvoids (InReg n) = Avoids n
PlaceAvoids (At a) = Unit {0}

pub place-spread : (d : Dst) (at : ℕ) (r : List ℕ) (x y : ℕ) → DstAvoids d → place_to d at (spread r x y) ≡ place_to d at r
unfolding place_to
place-spread (dst.Reg n) at r x y a = refl
place-spread (dst.Indexed n k) at r x y a = ap (λ (v : ℕ). At (sum_of k v)) (spread-reg r x y n a)
place-spread (dst.Symbolic k) at r x y a = refl
place-spread (dst.Absolute k) at r x y a = refl

pub place-avoids : (d : Dst) (at : ℕ) (r : List ℕ) → DstAvoids d → PlaceAvoids (place_to d at r)
unfolding place_to
place-avoids (dst.Reg n) at r a = a
place-avoids (dst.Indexed n k) at r a = tt
place-avoids (dst.Symbolic k) at r a = tt
place-avoids (dst.Absolute k) at r a = tt

operand-spread : (s : Src) (at : ℕ) (r : List ℕ) (x y : ℕ) → SrcAvoids s → place_of s at (spread r x y) ≡ place_of s at r
unfolding place_of
operand-spread (src.Reg n) at r x y a = refl
operand-spread (src.Indexed n k) at r x y a = ap (λ (v : ℕ). At (sum_of k v)) (spread-reg r x y n a)
operand-spread (src.Symbolic k) at r x y a = refl
operand-spread (src.Absolute k) at r x y a = refl
operand-spread (src.Indirect n) at r x y a = ap At (spread-reg r x y n a)
operand-spread (src.AutoInc n) at r x y a = ap At (spread-reg r x y n a)
operand-spread (src.Immediate k) at r x y a = refl
operand-spread (src.Const k) at r x y a = refl

operand-avoids : (s : Src) (at : ℕ) (r : List ℕ) → SrcAvoids s → PlaceAvoids (place_of s at r)
unfolding place_of
operand-avoids (src.Reg n) at r a = a
operand-avoids (src.Indexed n k) at r a = tt
operand-avoids (src.Symbolic k) at r a = tt
operand-avoids (src.Absolute k) at r a = tt
operand-avoids (src.Indirect n) at r a = tt
operand-avoids (src.AutoInc n) at r a = tt
operand-avoids (src.Immediate k) at r a = (omega arith, omega arith)
operand-avoids (src.Const k) at r a = (omega arith, omega arith)

pub value-spread : (w : Width) (p : Place) (m r : List ℕ) (x y : ℕ) → PlaceAvoids p → value_in w p m (spread r x y) ≡ value_in w p m r
unfolding value_in
value-spread w (InReg n) m r x y a = ap (low w) (spread-reg r x y n a)
value-spread w (At k) m r x y a = refl

put-spread : (p : Place) (v : ℕ) (r : List ℕ) (x y : ℕ) → PlaceAvoids p → put_context p v (spread r x y) ≡ spread (put_context p v r) x y
unfolding put_context
put-spread (InReg n) v r x y a = spread-set r x y n v a
put-spread (At k) v r x y a = refl

-- ---- from the operands on

abbrev pub two_from : Op2 → Width → Place → (v d : ℕ) → List ℕ → Effect
two_from op w p v d r2 =
    let o = alu op w v d (reg r2 2) in
    let r3 = set_reg r2 2 o.status in
    record {
      context = if writes op then put_context p o.value r3 else r3;
      written = if writes op then put_pairs w p o.value else [];
    }

abbrev pub effect_of : List ℕ → List (ℕ × ℕ) → Effect
effect_of c ps = record { context = c; written = ps }

pub from-spread : (op : Op2) (w : Width) (p : Place) (v d : ℕ) (r : List ℕ) (x y : ℕ) → PlaceAvoids p → two_from op w p v d (spread r x y) ≡ spread_effect (two_from op w p v d r) x y
from-spread op w p v d r x y a =
    let o = alu op w v d (reg r 2) in
    let three = spread-set r x y 2 o.status two-free in
    ap (λ (s : ℕ). let o = alu op w v d s in let r3 = set_reg (spread r x y) 2 o.status in effect_of (if writes op then put_context p o.value r3 else r3) (if writes op then put_pairs w p o.value else [])) (spread-reg r x y 2 two-free)
    ∙ (ap (λ (q : List ℕ). effect_of (if writes op then put_context p o.value q else q) (if writes op then put_pairs w p o.value else [])) three
    ∙ (ap (λ (q : List ℕ). effect_of (if writes op then q else spread (set_reg r 2 o.status) x y) (if writes op then put_pairs w p o.value else [])) (put-spread p o.value (set_reg r 2 o.status) x y a)
    ∙ ap (λ (q : List ℕ). effect_of q (if writes op then put_pairs w p o.value else [])) (pick-spread (writes op) _ _ x y)))

two-spread : (op : Op2) (w : Width) (s : Src) (d : Dst) (n : ℕ) (m r : List ℕ) (x y : ℕ) → SrcAvoids s → DstAvoids d → two op w s d n m (spread r x y) ≡ spread_effect (two op w s d n m r) x y
unfolding two
two-spread op w s d n m r x y a b =
    let pc = reg r 0 in
    let r1 = passed r n in
    let v = source_value w s (sum_of pc 2) m r1 in
    let r2 = after_source w s r1 in
    let at = sum_of pc (2 * n - 2) in
    let p = place_to d at r2 in
    ap (λ (c : ℕ). let q1 = passed (spread r x y) n in let q2 = after_source w s q1 in let p = place_to d (sum_of c (2 * n - 2)) q2 in two_from op w p (source_value w s (sum_of c 2) m q1) (value_in w p m q2) q2) (spread-reg r x y 0 none)
    ∙ (ap (λ (q1 : List ℕ). let q2 = after_source w s q1 in let p = place_to d at q2 in two_from op w p (source_value w s (sum_of pc 2) m q1) (value_in w p m q2) q2) (passed-spread r x y n)
    ∙ (ap (λ (k : ℕ). let q2 = after_source w s (spread r1 x y) in let p = place_to d at q2 in two_from op w p k (value_in w p m q2) q2) (source-spread w s (sum_of pc 2) m r1 x y a)
    ∙ (ap (λ (q2 : List ℕ). let p = place_to d at q2 in two_from op w p v (value_in w p m q2) q2) (after-spread w s r1 x y a)
    ∙ (ap (λ (p : Place). two_from op w p v (value_in w p m (spread r2 x y)) (spread r2 x y)) (place-spread d at r2 x y b)
    ∙ (ap (λ (k : ℕ). two_from op w p v k (spread r2 x y)) (value-spread w p m r2 x y (place-avoids d at r2 b))
    ∙ from-spread op w p v (value_in w p m r2) r2 x y (place-avoids d at r2 b))))))

change-spread : (op : Op1) (w : Width) (s : Src) (n : ℕ) (m r : List ℕ) (x y : ℕ) → SrcAvoids s → change op w s n m (spread r x y) ≡ spread_effect (change op w s n m r) x y
unfolding change
change-spread op w s n m r x y a =
    let pc = reg r 0 in
    let r1 = passed r n in
    let v = source_value w s (sum_of pc 2) m r1 in
    let r2 = after_source w s r1 in
    let p = place_of s (sum_of pc 2) r1 in
    let o = alu_one op w v (reg r2 2) in
    ap (λ (c : ℕ). let q1 = passed (spread r x y) n in let q2 = after_source w s q1 in let p = place_of s (sum_of c 2) q1 in let o = alu_one op w (source_value w s (sum_of c 2) m q1) (reg q2 2) in effect_of (put_context p o.value (set_reg q2 2 o.status)) (put_pairs w p o.value)) (spread-reg r x y 0 none)
    ∙ (ap (λ (q1 : List ℕ). let q2 = after_source w s q1 in let p = place_of s (sum_of pc 2) q1 in let o = alu_one op w (source_value w s (sum_of pc 2) m q1) (reg q2 2) in effect_of (put_context p o.value (set_reg q2 2 o.status)) (put_pairs w p o.value)) (passed-spread r x y n)
    ∙ (ap (λ (k : ℕ). let q1 = spread r1 x y in let q2 = after_source w s q1 in let p = place_of s (sum_of pc 2) q1 in let o = alu_one op w k (reg q2 2) in effect_of (put_context p o.value (set_reg q2 2 o.status)) (put_pairs w p o.value)) (source-spread w s (sum_of pc 2) m r1 x y a)
    ∙ (ap (λ (p : Place). let q2 = after_source w s (spread r1 x y) in let o = alu_one op w v (reg q2 2) in effect_of (put_context p o.value (set_reg q2 2 o.status)) (put_pairs w p o.value)) (operand-spread s (sum_of pc 2) r1 x y a)
    ∙ (ap (λ (q2 : List ℕ). let o = alu_one op w v (reg q2 2) in effect_of (put_context p o.value (set_reg q2 2 o.status)) (put_pairs w p o.value)) (after-spread w s r1 x y a)
    ∙ (ap (λ (k : ℕ). let o = alu_one op w v k in effect_of (put_context p o.value (set_reg (spread r2 x y) 2 o.status)) (put_pairs w p o.value)) (spread-reg r2 x y 2 two-free)
    ∙ (ap (λ (q : List ℕ). effect_of (put_context p o.value q) (put_pairs w p o.value)) (spread-set r2 x y 2 o.status two-free)
    ∙ ap (λ (q : List ℕ). effect_of q (put_pairs w p o.value)) (put-spread p o.value (set_reg r2 2 o.status) x y (operand-avoids s (sum_of pc 2) r1 a))))))))

lowered-spread : (r : List ℕ) (x y : ℕ) → lowered (spread r x y) ≡ spread (lowered r) x y
lowered-spread r x y = ap (λ (v : ℕ). set_reg (spread r x y) 1 (sum_of v 65534)) (spread-reg r x y 1 one-free) ∙ spread-set r x y 1 _ one-free

raised-spread : (r : List ℕ) (x y : ℕ) → raised (spread r x y) ≡ spread (raised r) x y
raised-spread r x y = ap (λ (v : ℕ). set_reg (spread r x y) 1 (sum_of v 2)) (spread-reg r x y 1 one-free) ∙ spread-set r x y 1 _ one-free

push-spread : (w : Width) (s : Src) (n : ℕ) (m r : List ℕ) (x y : ℕ) → SrcAvoids s → push w s n m (spread r x y) ≡ spread_effect (push w s n m r) x y
unfolding push
push-spread w s n m r x y a =
    let pc = reg r 0 in
    let r1 = passed r n in
    let v = source_value w s (sum_of pc 2) m r1 in
    let r2 = after_source w s r1 in
    ap (λ (c : ℕ). let q1 = passed (spread r x y) n in let q2 = lowered (after_source w s q1) in effect_of q2 (stored w (reg q2 1) (source_value w s (sum_of c 2) m q1))) (spread-reg r x y 0 none)
    ∙ (ap (λ (q1 : List ℕ). let q2 = lowered (after_source w s q1) in effect_of q2 (stored w (reg q2 1) (source_value w s (sum_of pc 2) m q1))) (passed-spread r x y n)
    ∙ (ap (λ (k : ℕ). let q2 = lowered (after_source w s (spread r1 x y)) in effect_of q2 (stored w (reg q2 1) k)) (source-spread w s (sum_of pc 2) m r1 x y a)
    ∙ (ap (λ (q : List ℕ). let q2 = lowered q in effect_of q2 (stored w (reg q2 1) v)) (after-spread w s r1 x y a)
    ∙ (ap (λ (q2 : List ℕ). effect_of q2 (stored w (reg q2 1) v)) (lowered-spread r2 x y)
    ∙ ap (λ (k : ℕ). effect_of (spread (lowered r2) x y) (stored w k v)) (spread-reg (lowered r2) x y 1 one-free)))))

call-spread : (s : Src) (n : ℕ) (m r : List ℕ) (x y : ℕ) → SrcAvoids s → call s n m (spread r x y) ≡ spread_effect (call s n m r) x y
unfolding call
call-spread s n m r x y a =
    let pc = reg r 0 in
    let r1 = passed r n in
    let v = source_value Wide s (sum_of pc 2) m r1 in
    let r2 = after_source Wide s r1 in
    let r3 = lowered r2 in
    ap (λ (c : ℕ). let q1 = passed (spread r x y) n in let q2 = lowered (after_source Wide s q1) in effect_of (set_reg q2 0 (source_value Wide s (sum_of c 2) m q1)) (stored Wide (reg q2 1) (reg q2 0))) (spread-reg r x y 0 none)
    ∙ (ap (λ (q1 : List ℕ). let q2 = lowered (after_source Wide s q1) in effect_of (set_reg q2 0 (source_value Wide s (sum_of pc 2) m q1)) (stored Wide (reg q2 1) (reg q2 0))) (passed-spread r x y n)
    ∙ (ap (λ (k : ℕ). let q2 = lowered (after_source Wide s (spread r1 x y)) in effect_of (set_reg q2 0 k) (stored Wide (reg q2 1) (reg q2 0))) (source-spread Wide s (sum_of pc 2) m r1 x y a)
    ∙ (ap (λ (q : List ℕ). let q2 = lowered q in effect_of (set_reg q2 0 v) (stored Wide (reg q2 1) (reg q2 0))) (after-spread Wide s r1 x y a)
    ∙ (ap (λ (q2 : List ℕ). effect_of (set_reg q2 0 v) (stored Wide (reg q2 1) (reg q2 0))) (lowered-spread r2 x y)
    ∙ (ap (λ (k : ℕ). effect_of (set_reg (spread r3 x y) 0 v) (stored Wide k (reg (spread r3 x y) 0))) (spread-reg r3 x y 1 one-free)
    ∙ (ap (λ (k : ℕ). effect_of (set_reg (spread r3 x y) 0 v) (stored Wide (reg r3 1) k)) (spread-reg r3 x y 0 none)
    ∙ ap (λ (q : List ℕ). effect_of q (stored Wide (reg r3 1) (reg r3 0))) (spread-set r3 x y 0 v none)))))))

reti-spread : (m r : List ℕ) (x y : ℕ) → reti m (spread r x y) ≡ spread_effect (reti m r) x y
unfolding reti
reti-spread m r x y =
    let r0 = set_reg r 2 (word_at m (reg r 1)) in
    let r1 = raised r0 in
    let pc = word_at m (reg r1 1) in
    ap (λ (k : ℕ). let q1 = raised (set_reg (spread r x y) 2 (word_at m k)) in effect_of (raised (set_reg q1 0 (word_at m (reg q1 1)))) []) (spread-reg r x y 1 one-free)
    ∙ (ap (λ (q : List ℕ). let q1 = raised q in effect_of (raised (set_reg q1 0 (word_at m (reg q1 1)))) []) (spread-set r x y 2 _ two-free)
    ∙ (ap (λ (q1 : List ℕ). effect_of (raised (set_reg q1 0 (word_at m (reg q1 1)))) []) (raised-spread r0 x y)
    ∙ (ap (λ (k : ℕ). effect_of (raised (set_reg (spread r1 x y) 0 (word_at m k))) []) (spread-reg r1 x y 1 one-free)
    ∙ (ap (λ (q : List ℕ). effect_of (raised q) []) (spread-set r1 x y 0 pc none)
    ∙ ap (λ (q : List ℕ). effect_of q []) (raised-spread (set_reg r1 0 pc) x y)))))

pub frame : FrameLaw
unfolding does one jump
frame m r (instr.Two op w s d) n x y a = two-spread op w s d n m r x y a.0 a.1
frame m r (instr.One Push w s) n x y a = push-spread w s n m r x y a
frame m r (instr.One Call w s) n x y a = call-spread s n m r x y a
frame m r (instr.One Rrc w s) n x y a = change-spread Rrc w s n m r x y a
frame m r (instr.One Swpb w s) n x y a = change-spread Swpb w s n m r x y a
frame m r (instr.One Rra w s) n x y a = change-spread Rra w s n m r x y a
frame m r (instr.One Sxt w s) n x y a = change-spread Sxt w s n m r x y a
frame m r instr.Reti n x y a = reti-spread m r x y
frame m r (instr.Jump c k) n x y a =
    ap (λ (s : ℕ). effect_of (set_reg (spread r x y) 0 (if holds c s then target (reg (spread r x y) 0) k else sum_of (reg (spread r x y) 0) 2)) []) (spread-reg r x y 2 two-free)
    ∙ (ap (λ (p : ℕ). effect_of (set_reg (spread r x y) 0 (if holds c (reg r 2) then target p k else sum_of p 2)) []) (spread-reg r x y 0 none)
    ∙ ap (λ (q : List ℕ). effect_of q []) (spread-set r x y 0 _ none))

-- Operations of one operand on @R4.
use Rattle.std.proofs.Common.{◌≡◌, ◌≢◌, ℕ, ◌+◌, ◌-◌, ◌*◌, ◌%◌, ◌<◌, ◌≤◌, List, [], ◌∷◌, length, set, refl, sym, ap, ◌∙◌, arith}
use Rattle.std.proofs.lemmas.List.{get_or-set_same}
use Rattle.std.proofs.lemmas.Bool.{false≢true}
use Rattle.machine_model.specs.Memory.{even}
use Rattle.machine_model.specs.Context.{reg, set_reg, IsContext}
use Rattle.machine_model.specs.Operands.{sum_of, load, source_value, after_source, place_of, put_context, put_pairs}
use Rattle.machine_model.specs.Alu.{alu_one}
use Rattle.machine_model.specs.Does.{does, one, change, passed, Effect}
use Rattle.machine_model.specs.declared.place.Place.TheVariants.{At}
use Rattle.msp_encode.specs.declared.instr.Width.{Width}
use Rattle.msp_encode.specs.declared.instr.Op1.{Op1}
use Rattle.msp_encode.specs.declared.instr.Op1.TheVariants.{Rrc, Swpb, Rra, Sxt, Push, Call}
use Rattle.msp_encode.specs.declared.instr.Src.{Src}
use Rattle.msp_encode.specs.declared.instr.Src.TheVariants as src
use Rattle.unit_laws.specs.Frame.{spread, spread_effect}
use Rattle.unit_laws.specs.Guarded.{AtR4Law, IsCellOperand}
use Rattle.unit_laws.proofs.Frame.{spread-reg, spread-set, two-free, passed-spread, effect_of}
use Rattle.unit_laws.proofs.Guarded.{set-length, reg-other, spread-four}

twice : (l : List ℕ) (a b : ℕ) → set (set l 0 a) 0 b ≡ set l 0 b
twice [] a b = refl
twice (v ∷ l) a b = refl

-- PC after an instruction of k words at an address
passes : (r : List ℕ) (pc k : ℕ) → IsContext r → pc % 2 ≡ 0 → pc + 2 * k < 65536 → passed (set_reg r 0 pc) k ≡ set r 0 (pc + 2 * k)
unfolding set_reg
passes r pc k h e b =
    ap (λ (p : ℕ). set (set r 0 (even pc)) 0 (even (sum_of p (2 * k)))) (get_or-set_same r 0 (even pc) 0 (omega (arith, h.words)))
    ∙ (twice r _ _ ∙ ap (set r 0) (omega (arith, e, b)))

-- an operation on a cell, from the context behind it on
abbrev on_cell : Op1 → Width → (a : ℕ) → (m r : List ℕ) → Effect
on_cell op w a m r = let o = alu_one op w (load w m a) (reg r 2) in effect_of (set_reg r 2 o.status) (put_pairs w (At a) o.value)

cell-change : (op : Op1) (w : Width) (s : Src) (k n x : ℕ) (m r : List ℕ) → IsCellOperand s n x → x < 65536 → reg r 3 ≡ 0 → reg r n < 65536 → n ≢ 0 → change op w s k m r ≡ on_cell op w (sum_of x (reg r n)) m (passed r k)
unfolding change source_value after_source place_of put_context
cell-change op w (src.Indexed j z) k n x m r c b t l d =
    ap (λ (v : ℕ). on_cell op w (sum_of z v) m (passed r k)) (reg-other r 0 _ j (λ e. d (c.0 ∙ e)))
    ∙ (ap (λ (v : ℕ). on_cell op w (sum_of v (reg r j)) m (passed r k)) (sym c.1) ∙ ap (λ (v : ℕ). on_cell op w (sum_of x (reg r v)) m (passed r k)) (sym c.0))
cell-change op w (src.Absolute z) k n x m r c b t l d =
    let at_three : sum_of x (reg r n) ≡ z = ap (λ (v : ℕ). sum_of x (reg r v)) c.0 ∙ (ap (λ (v : ℕ). sum_of x v) t ∙ omega (arith, b, c.1)) in
    ap (λ (v : ℕ). on_cell op w v m (passed r k)) (sym at_three)
cell-change op w (src.Indirect j) k n x m r c b t l d =
    let there : sum_of x (reg r n) ≡ reg r j = ap (λ (v : ℕ). sum_of v (reg r n)) c.1 ∙ (omega (arith, l) ∙ ap (reg r) c.0) in
    ap (λ (v : ℕ). on_cell op w v m (passed r k)) (reg-other r 0 _ j (λ e. d (c.0 ∙ e)) ∙ sym there)
cell-change op w (src.Reg j) k n x m r c b t l d = absurd c
cell-change op w (src.Symbolic z) k n x m r c b t l d = absurd c
cell-change op w (src.AutoInc j) k n x m r c b t l d = absurd c
cell-change op w (src.Immediate z) k n x m r c b t l d = absurd c
cell-change op w (src.Const z) k n x m r c b t l d = absurd c

-- the same on @R4
r4-change : (op : Op1) (w : Width) (c y : ℕ) (m r : List ℕ) → length r ≡ 16 → change op w (src.Indirect 4) 1 m (spread r c y) ≡ spread_effect (on_cell op w c m (passed r 1)) c y
unfolding change source_value after_source place_of put_context
r4-change op w c y m r h =
    let r1 = passed r 1 in
    let o = alu_one op w (load w m c) (reg r1 2) in
    ap (λ (q : List ℕ). let a = reg q 4 in let o = alu_one op w (load w m a) (reg q 2) in effect_of (set_reg q 2 o.status) (put_pairs w (At a) o.value)) (passed-spread r c y 1)
    ∙ (ap (λ (a : ℕ). let o = alu_one op w (load w m a) (reg (spread r1 c y) 2) in effect_of (set_reg (spread r1 c y) 2 o.status) (put_pairs w (At a) o.value)) (spread-four r1 c y (set-length r 0 _ ∙ h))
    ∙ (ap (λ (f : ℕ). let o = alu_one op w (load w m c) f in effect_of (set_reg (spread r1 c y) 2 o.status) (put_pairs w (At c) o.value)) (spread-reg r1 c y 2 two-free)
    ∙ ap (λ (q : List ℕ). effect_of q (put_pairs w (At c) o.value)) (spread-set r1 c y 2 o.status two-free)))

at_r4 : (m r : List ℕ) (op : Op1) (w : Width) (s : Src) (pc k n x y : ℕ) → IsContext r → IsCellOperand s n x → n ≢ 0 → x < 65536 → pc % 2 ≡ 0 → 1 ≤ k → pc + 2 * k < 65536
    → change op w (src.Indirect 4) 1 m (spread (set_reg r 0 (pc + (2 * k - 2))) (sum_of x (reg r n)) y) ≡ spread_effect (change op w s k m (set_reg r 0 pc)) (sum_of x (reg r n)) y
at_r4 m r op w s pc k n x y h cell d b e a l =
    let c = sum_of x (reg r n) in
    let q = set_reg r 0 pc in
    let p = set_reg r 0 (pc + (2 * k - 2)) in
    let kept : reg q n ≡ reg r n = reg-other r 0 pc n d in
    let zero : reg q 3 ≡ 0 = reg-other r 0 pc 3 (omega arith) ∙ h.zero in
    let ends : passed p 1 ≡ passed q k =
    passes r (pc + (2 * k - 2)) 1 h (omega (arith, e, a)) (omega (arith, l, a)) ∙ (ap (set r 0) (omega (arith, a)) ∙ sym (passes r pc k h e l)) in
    r4-change op w c y m p (set-length r 0 _ ∙ h.words)
    ∙ (ap (λ (z : List ℕ). spread_effect (on_cell op w c m z) c y) ends
    ∙ (ap (λ (v : ℕ). spread_effect (on_cell op w (sum_of x v) m (passed q k)) c y) (sym kept)
    ∙ ap (λ (f : Effect). spread_effect f c y) (sym (cell-change op w s k n x m q cell b zero (omega (arith, kept, h.small n)) d))))

pub at-r4 : AtR4Law
unfolding does one
at-r4 m r Rrc w s pc k n x y h c = at_r4 m r Rrc w s pc k n x y h
at-r4 m r Swpb w s pc k n x y h c = at_r4 m r Swpb w s pc k n x y h
at-r4 m r Rra w s pc k n x y h c = at_r4 m r Rra w s pc k n x y h
at-r4 m r Sxt w s pc k n x y h c = at_r4 m r Sxt w s pc k n x y h
at-r4 m r Push w s pc k n x y h c = absurd (false≢true c)
at-r4 m r Call w s pc k n x y h c = absurd (false≢true c)

-- What each line of a guard does.
use Rattle.std.proofs.Common.{◌≡◌, ◌≢◌, ℕ, zero, suc, ◌+◌, ◌*◌, ◌%◌, ◌<◌, ◌≤◌, ◌⊎◌, Bool, true, false, List, refl, sym, ap, ◌∙◌, subst, inl, inr, arith}
use Rattle.std.specs.Prelude.{if◌then◌else◌}
use Rattle.machine_model.specs.Memory.{even, word_at}
use Rattle.machine_model.specs.Context.{reg, set_reg}
use Rattle.machine_model.specs.Operands.{sum_of, source_value, after_source, place_to, value_in, put_context, put_pairs}
use Rattle.machine_model.specs.Alu.{alu, added}
use Rattle.machine_model.specs.Does.{does, two, jump, holds}
use Rattle.msp_encode.specs.declared.instr.Width.TheVariants.{Wide}
use Rattle.msp_encode.specs.declared.instr.Cg.TheVariants.{Zero}
use Rattle.msp_encode.specs.declared.instr.Op2.TheVariants.{Mov, Add}
use Rattle.msp_encode.specs.declared.instr.Src.TheVariants as src
use Rattle.msp_encode.specs.declared.instr.Dst.TheVariants as dst
use Rattle.msp_encode.specs.declared.instr.Cond.{Cond}
use Rattle.msp_encode.specs.declared.instr.Instr.TheVariants as instr
use Rattle.std.specs.Prelude.{◌==◌}
use Rattle.std.proofs.lemmas.Bool.Decides.{nat_tests}
use Rattle.unit_laws.specs.Running.{held, silent}
use Rattle.unit_laws.specs.Lines.{Saves, Loads, Adds, Compares, ComparesSp, ComparesTop, ComparesNew, ComparesNewTop, Jumps, Branches, Restores, instr_of, IsIndexed, compared, LineLaw}
use Rattle.kernel_model.specs.declared.map.TheConstants.{STACK_LIMIT, STACK_TOP}

-- silent steps to the same four registers
same : (r : List ℕ) (p q s t x v y w : ℕ) → p ≡ q → s ≡ t → x ≡ v → y ≡ w → silent (held r p s x y) ≡ silent (held r q t v w)
same r p q s t x v y w a b c d =
    ap (λ (n : ℕ). silent (held r n s x y)) a ∙ (ap (λ (n : ℕ). silent (held r q n x y)) b ∙ (ap (λ (n : ℕ). silent (held r q t n y)) c ∙ ap (λ (n : ℕ). silent (held r q t v n)) d))

small : (n : ℕ) → n < 65536 → n % 65536 ≡ n
small n h = omega (arith, h)

pc-on : (pc k : ℕ) → pc % 2 ≡ 0 → k % 2 ≡ 0 → pc + k < 65536 → even (sum_of pc k) ≡ pc + k
pc-on pc k h e l = omega (arith, h, e, l)

saves-does : (m r : List ℕ) (pc sr x y : ℕ) → does m (held r pc sr x y) (instr_of Saves) 1 ≡ silent (held r (even (sum_of pc 2)) sr x (sr % 65536))
unfolding does two set_reg source_value after_source place_to value_in put_context put_pairs alu added
saves-does m r pc sr x y = refl

few : (n : ℕ) → n ≢ 1 → n < 6 → (n ≡ 1) ⊎ ((6 ≤ n) × (n < 16)) → ⊥
few n a b (inl e) = a e
few n a b (inr e) = omega (arith, b, e.0)

many : (n : ℕ) → 16 ≤ n → (n ≡ 1) ⊎ ((6 ≤ n) × (n < 16)) → ⊥
many n a (inl e) = omega (arith, a, e)
many n a (inr e) = omega (arith, a, e.1)

register-does : (n : ℕ) (m r : List ℕ) (pc sr x y : ℕ) → (n ≡ 1) ⊎ ((6 ≤ n) × (n < 16)) → does m (held r pc sr x y) (instr.Two Mov Wide (src.Reg n) (dst.Reg 4)) 1 ≡ silent (held r (even (sum_of pc 2)) sr (reg r n % 65536) y)
unfolding does two set_reg source_value after_source place_to value_in put_context put_pairs alu added
register-does zero m r pc sr x y h = absurd (few 0 (omega arith) (omega arith) h)
register-does (suc zero) m r pc sr x y h = refl
register-does (suc (suc zero)) m r pc sr x y h = absurd (few 2 (omega arith) (omega arith) h)
register-does (suc (suc (suc zero))) m r pc sr x y h = absurd (few 3 (omega arith) (omega arith) h)
register-does (suc (suc (suc (suc zero)))) m r pc sr x y h = absurd (few 4 (omega arith) (omega arith) h)
register-does (suc (suc (suc (suc (suc zero))))) m r pc sr x y h = absurd (few 5 (omega arith) (omega arith) h)
register-does (suc (suc (suc (suc (suc (suc zero)))))) m r pc sr x y h = refl
register-does (suc (suc (suc (suc (suc (suc (suc zero))))))) m r pc sr x y h = refl
register-does (suc (suc (suc (suc (suc (suc (suc (suc zero)))))))) m r pc sr x y h = refl
register-does (suc (suc (suc (suc (suc (suc (suc (suc (suc zero))))))))) m r pc sr x y h = refl
register-does (suc (suc (suc (suc (suc (suc (suc (suc (suc (suc zero)))))))))) m r pc sr x y h = refl
register-does (suc (suc (suc (suc (suc (suc (suc (suc (suc (suc (suc zero))))))))))) m r pc sr x y h = refl
register-does (suc (suc (suc (suc (suc (suc (suc (suc (suc (suc (suc (suc zero)))))))))))) m r pc sr x y h = refl
register-does (suc (suc (suc (suc (suc (suc (suc (suc (suc (suc (suc (suc (suc zero))))))))))))) m r pc sr x y h = refl
register-does (suc (suc (suc (suc (suc (suc (suc (suc (suc (suc (suc (suc (suc (suc zero)))))))))))))) m r pc sr x y h = refl
register-does (suc (suc (suc (suc (suc (suc (suc (suc (suc (suc (suc (suc (suc (suc (suc zero))))))))))))))) m r pc sr x y h = refl
register-does (suc (suc (suc (suc (suc (suc (suc (suc (suc (suc (suc (suc (suc (suc (suc (suc n)))))))))))))))) m r pc sr x y h = absurd (many _ (omega arith) h)

zero-does : (m r : List ℕ) (pc sr x y : ℕ) → does m (held r pc sr x y) (instr.Two Mov Wide (src.Const Zero) (dst.Reg 4)) 1 ≡ silent (held r (even (sum_of pc 2)) sr 0 y)
unfolding does two set_reg source_value after_source place_to value_in put_context put_pairs alu added
zero-does m r pc sr x y = refl

adds-does : (v : ℕ) (m r : List ℕ) (pc sr x y : ℕ) → does m (held r pc sr x y) (instr_of (Adds v)) 2 ≡ silent (held r (even (sum_of pc 4)) (alu Add Wide (v % 65536) (x % 65536) sr).status (alu Add Wide (v % 65536) (x % 65536) sr).value y)
unfolding does two set_reg source_value after_source place_to value_in put_context put_pairs
adds-does v m r pc sr x y = refl

compares-does : (v : ℕ) (m r : List ℕ) (pc sr x y : ℕ) → does m (held r pc sr x y) (instr_of (Compares v)) 2 ≡ silent (held r (even (sum_of pc 4)) (compared (v % 65536) (x % 65536) sr) x y)
unfolding does two set_reg source_value after_source place_to value_in put_context put_pairs
compares-does v m r pc sr x y = refl

sp-does : (m r : List ℕ) (pc sr x y : ℕ) → does m (held r pc sr x y) (instr_of ComparesSp) 2 ≡ silent (held r (even (sum_of pc 4)) (compared (word_at m STACK_LIMIT) (reg r 1 % 65536) sr) x y)
unfolding does two set_reg source_value after_source place_to value_in put_context put_pairs
sp-does m r pc sr x y = refl

top-does : (m r : List ℕ) (pc sr x y : ℕ) → does m (held r pc sr x y) (instr_of ComparesTop) 2 ≡ silent (held r (even (sum_of pc 4)) (compared (reg r 1 % 65536) (word_at m STACK_TOP) sr) x y)
unfolding does two set_reg source_value after_source place_to value_in put_context put_pairs
top-does m r pc sr x y = refl

new-does : (m r : List ℕ) (pc sr x y : ℕ) → does m (held r pc sr x y) (instr_of ComparesNew) 2 ≡ silent (held r (even (sum_of pc 4)) (compared (word_at m STACK_LIMIT) (x % 65536) sr) x y)
unfolding does two set_reg source_value after_source place_to value_in put_context put_pairs
new-does m r pc sr x y = refl

new_top-does : (m r : List ℕ) (pc sr x y : ℕ) → does m (held r pc sr x y) (instr_of ComparesNewTop) 2 ≡ silent (held r (even (sum_of pc 4)) (compared (x % 65536) (word_at m STACK_TOP) sr) x y)
unfolding does two set_reg source_value after_source place_to value_in put_context put_pairs
new_top-does m r pc sr x y = refl

branches-does : (v : ℕ) (m r : List ℕ) (pc sr x y : ℕ) → does m (held r pc sr x y) (instr_of (Branches v)) 2 ≡ silent (held r (even (v % 65536)) sr x y)
unfolding does two set_reg source_value after_source place_to value_in put_context put_pairs alu added
branches-does v m r pc sr x y = refl

restores-does : (m r : List ℕ) (pc sr x y : ℕ) → does m (held r pc sr x y) (instr_of Restores) 1 ≡ silent (held r (even (sum_of pc 2)) (y % 65536) x y)
unfolding does two set_reg source_value after_source place_to value_in put_context put_pairs alu added
restores-does m r pc sr x y = refl

jumps-does : (c : Cond) (k : ℕ) (m r : List ℕ) (pc sr x y : ℕ) → does m (held r pc sr x y) (instr_of (Jumps c k)) 1 ≡ silent (held r (even (if holds c sr then sum_of pc (2 + 2 * k) else sum_of pc 2)) sr x y)
unfolding does jump set_reg
jumps-does c k m r pc sr x y = refl

jumps-pc : (b : Bool) (pc k : ℕ) → pc % 2 ≡ 0 → (if b then pc + (2 + 2 * k) else pc + 2) < 65536 → even (if b then sum_of pc (2 + 2 * k) else sum_of pc 2) ≡ (if b then pc + (2 + 2 * k) else pc + 2)
jumps-pc true pc k h l = omega (arith, h, l)
jumps-pc false pc k h l = omega (arith, h, l)

added-value : (v x sr : ℕ) → (alu Add Wide v x sr).value ≡ sum_of v x
unfolding alu added
added-value v x sr = omega arith

pub differs : (n : ℕ) → 6 ≤ n → (n == 3) ≡ false
differs n h = grind (arith, nat_tests, h)

pub line-does : LineLaw
line-does Saves m r pc sr x y h k t l = saves-does m r pc sr x y ∙ same r _ _ _ _ _ _ _ _ (pc-on pc 2 k.pc_even refl l) refl refl (small sr (k.small 2))
line-does (Loads n) m r pc sr x y h k t l = loads t
  where
    other : (n ≡ 1) ⊎ ((6 ≤ n) × (n < 16)) → does m (held r pc sr x y) (instr.Two Mov Wide (src.Reg n) (dst.Reg 4)) 1 ≡ silent (held r (pc + 2) sr (reg r n) y)
    other e = register-does n m r pc sr x y e ∙ same r _ _ _ _ _ _ _ _ (pc-on pc 2 k.pc_even refl l) refl (small (reg r n) (h.small n)) refl

    loads : IsIndexed n → does m (held r pc sr x y) (instr_of (Loads n)) 1 ≡ silent (held r (pc + 2) sr (reg r n) y)
    loads (inl e) = subst (λ (j : ℕ). does m (held r pc sr x y) (instr_of (Loads j)) 1 ≡ silent (held r (pc + 2) sr (reg r j) y)) (sym e)
        (register-does 1 m r pc sr x y (inl refl) ∙ same r _ _ _ _ _ _ _ _ (pc-on pc 2 k.pc_even refl l) refl (small (reg r 1) (h.small 1)) refl)
    loads (inr (inl e)) = subst (λ (j : ℕ). does m (held r pc sr x y) (instr_of (Loads j)) 1 ≡ silent (held r (pc + 2) sr (reg r j) y)) (sym e)
        (zero-does m r pc sr x y ∙ same r _ _ _ _ _ _ _ _ (pc-on pc 2 k.pc_even refl l) refl (sym h.zero) refl)
    loads (inr (inr e)) = high (other (inr e))
      where
        high : does m (held r pc sr x y) (instr.Two Mov Wide (src.Reg n) (dst.Reg 4)) 1 ≡ silent (held r (pc + 2) sr (reg r n) y) → does m (held r pc sr x y) (instr_of (Loads n)) 1 ≡ silent (held r (pc + 2) sr (reg r n) y)
        high g = subst (λ (b : Bool). does m (held r pc sr x y) (instr.Two Mov Wide (if b then src.Const Zero else src.Reg n) (dst.Reg 4)) 1 ≡ silent (held r (pc + 2) sr (reg r n) y)) (sym (differs n e.0)) g
line-does (Adds v) m r pc sr x y h k t l = adds-does v m r pc sr x y ∙ same r _ _ _ _ _ _ _ _ (pc-on pc 4 k.pc_even refl l)
    (ap (λ (j : ℕ). (alu Add Wide j (x % 65536) sr).status) (small v t) ∙ ap (λ (j : ℕ). (alu Add Wide v j sr).status) (small x (k.small 4)))
    (added-value _ _ sr ∙ omega arith) refl
line-does (Compares v) m r pc sr x y h k t l = compares-does v m r pc sr x y ∙ same r _ _ _ _ _ _ _ _ (pc-on pc 4 k.pc_even refl l)
    (ap (λ (j : ℕ). compared j (x % 65536) sr) (small v t) ∙ ap (λ (j : ℕ). compared v j sr) (small x (k.small 4))) refl refl
line-does ComparesSp m r pc sr x y h k t l = sp-does m r pc sr x y ∙ same r _ _ _ _ _ _ _ _ (pc-on pc 4 k.pc_even refl l)
    (ap (λ (j : ℕ). compared (word_at m STACK_LIMIT) j sr) (small (reg r 1) (h.small 1))) refl refl
line-does ComparesTop m r pc sr x y h k t l = top-does m r pc sr x y ∙ same r _ _ _ _ _ _ _ _ (pc-on pc 4 k.pc_even refl l)
    (ap (λ (j : ℕ). compared j (word_at m STACK_TOP) sr) (small (reg r 1) (h.small 1))) refl refl
line-does ComparesNew m r pc sr x y h k t l = new-does m r pc sr x y ∙ same r _ _ _ _ _ _ _ _ (pc-on pc 4 k.pc_even refl l)
    (ap (λ (j : ℕ). compared (word_at m STACK_LIMIT) j sr) (small x (k.small 4))) refl refl
line-does ComparesNewTop m r pc sr x y h k t l = new_top-does m r pc sr x y ∙ same r _ _ _ _ _ _ _ _ (pc-on pc 4 k.pc_even refl l)
    (ap (λ (j : ℕ). compared j (word_at m STACK_TOP) sr) (small x (k.small 4))) refl refl
line-does (Jumps c j) m r pc sr x y h k t l = jumps-does c j m r pc sr x y ∙ same r _ _ _ _ _ _ _ _ (jumps-pc (holds c sr) pc j k.pc_even l) refl refl refl
line-does (Branches v) m r pc sr x y h k t l = branches-does v m r pc sr x y ∙ same r _ _ _ _ _ _ _ _ (omega (arith, t, l)) refl refl refl
line-does Restores m r pc sr x y h k t l = restores-does m r pc sr x y ∙ same r _ _ _ _ _ _ _ _ (pc-on pc 2 k.pc_even refl l) (small y (k.small 5)) refl refl

-- Branches, jumps, and the first word of a guard.
use Rattle.std.proofs.Common.{◌≡◌, ℕ, ◌+◌, ◌*◌, ◌%◌, ◌<◌, List, refl, sym, ◌∙◌, subst, inl, inr, arith}
use Rattle.std.specs.Prelude.{ℤ, pos, negsuc}
use Rattle.std.proofs.lemmas.Bool.{cases_Bool}
use Rattle.machine_model.specs.Context.{reg, set_reg}
use Rattle.machine_model.specs.Operands.{sum_of, source_value, after_source, place_to, put_context, put_pairs}
use Rattle.machine_model.specs.Alu.{alu}
use Rattle.machine_model.specs.Does.{does, two, passed, target, holds}
use Rattle.machine_laws.specs.Steady.{IsSteady, Bounds}
use Rattle.machine_laws.specs.Plain.{Goes, Jumps, Passed, Taken, BranchLaw, JumpLaw, SaveLaw}
use Rattle.machine_laws.proofs.Registers.{reg_other, pc_same, high_same, steady-sr, steady-reg}
use Rattle.machine_laws.proofs.Jumps.{at_pc, jump-taken, jump-passed}

goes-to : (b : Bounds) (kb : ℕ) (r : List ℕ) (a : ℕ) → IsSteady kb b.low b.top r → a % 2 ≡ 0 → a < 65536 → Goes a b kb (at_pc r a)
goes-to b kb r a st e h = record {
  steady = steady-reg kb b.low b.top r 0 a st (omega arith) (omega arith) h;
  pc = pc_same r a st.context ∙ omega arith;
  silent = refl;
}

pub branch-goes : BranchLaw
unfolding does two source_value after_source place_to put_context put_pairs alu
branch-goes b kb m r x n st e h =
    let s1 = steady-reg kb b.low b.top r 0 (sum_of (reg r 0) (2 * n)) st (omega arith) (omega arith) (omega arith) in
    let q = passed r n in
    let s2 = steady-sr kb b.low b.top (passed r n) (reg (passed r n) 2) s1 s1.status (s1.context.small 2) in
    record {
      steady = steady-reg kb b.low b.top (set_reg q 2 (reg q 2)) 0 (x % 65536) s2 (omega arith) (omega arith) (omega arith);
      pc = pc_same (set_reg q 2 (reg q 2)) (x % 65536) s2.context ∙ omega arith;
      silent = refl;
    }

target-even : (pc : ℕ) (k : ℤ) → pc % 2 ≡ 0 → target pc k % 2 ≡ 0
target-even pc (pos k) h = omega arith
target-even pc (negsuc k) h = omega arith

target-word : (pc : ℕ) (k : ℤ) → target pc k < 65536
target-word pc (pos k) = omega arith
target-word pc (negsuc k) = omega arith

pub jump-goes : JumpLaw
jump-goes b kb m r c k n st p = elim (cases_Bool (holds c (reg r 2))) [
  | inl t ↦ subst (Jumps c k b kb r) (sym (jump-taken c k m r n t)) (Taken (goes-to b kb r _ st (target-even (reg r 0) k st.context.pc_even) (target-word (reg r 0) k)))
  | inr f ↦ subst (Jumps c k b kb r) (sym (jump-passed c k m r n f)) (Passed f (subst (λ (a : ℕ). Goes a b kb (at_pc r (sum_of (reg r 0) 2))) (sum-small (reg r 0) p)
      (goes-to b kb r (sum_of (reg r 0) 2) st (omega (arith, st.context.pc_even)) (omega arith))))
]
  where
    sum-small : (a : ℕ) → a + 2 < 65536 → sum_of a 2 ≡ a + 2
    sum-small a h = omega arith

pub save-saves : SaveLaw
unfolding does two source_value after_source place_to put_context put_pairs alu
save-saves b kb m r n st p =
    let s1 = steady-reg kb b.low b.top r 0 (sum_of (reg r 0) (2 * n)) st (omega arith) (omega arith) (omega arith) in
    let q = passed r n in
    let pc1 = pc_same r (sum_of (reg r 0) (2 * n)) st.context in
    let s2 = steady-sr kb b.low b.top (passed r n) (reg (passed r n) 2) s1 s1.status (s1.context.small 2) in
    let v = reg (passed r n) 2 % 65536 in
    record {
      steady = steady-reg kb b.low b.top (set_reg q 2 (reg q 2)) 5 (reg q 2 % 65536) s2 (omega arith) (omega arith) (omega arith);
      pc = reg_other (set_reg q 2 (reg q 2)) 5 (reg q 2 % 65536) 0 (omega arith) ∙ reg_other q 2 (reg q 2) 0 (omega arith) ∙ pc1 ∙ omega (arith, st.context.pc_even);
      saved = high_same (set_reg q 2 (reg q 2)) 5 (reg q 2 % 65536) s2.context (omega arith) (omega arith) ∙ omega (arith, s1.context.small 2) ∙ reg_other r 0 (sum_of (reg r 0) (2 * n)) 2 (omega arith);
      silent = refl;
    }

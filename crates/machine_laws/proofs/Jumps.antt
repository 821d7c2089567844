-- Jumps, and steps that set PC alone.
use Rattle.std.proofs.Common.{◌≡◌, ℕ, ◌+◌, ◌*◌, ◌%◌, ◌<◌, Bool, true, false, List, [], refl, ap, arith}
use Rattle.std.specs.Prelude.{if◌then◌else◌, ℤ}
use Rattle.machine_model.specs.Context.{reg, set_reg, IsContext}
use Rattle.machine_model.specs.Operands.{sum_of}
use Rattle.machine_model.specs.Does.{does, jump, holds, target, Effect}
use Rattle.msp_encode.specs.declared.instr.Cond.{Cond}
use Rattle.msp_encode.specs.declared.instr.Instr.TheVariants as instr
use Rattle.machine_laws.specs.Steady.{IsStatus, IsSteady, Bounds}
use Rattle.machine_laws.specs.Places.{GuardPlace, place_offset, place_fact}
use Rattle.machine_laws.specs.Own.{GuardAt, GoesTo}
use Rattle.machine_model.proofs.Contexts.{words, set-context}

-- PC is set to an address, and nothing else happens
abbrev pub at_pc : List ℕ → ℕ → Effect
at_pc r a = record { context = set_reg r 0 a; written = [] }

pub jump-taken : (c : Cond) (k : ℤ) (m r : List ℕ) (n : ℕ) → holds c (reg r 2) ≡ true → does m r (instr.Jump c k) n ≡ at_pc r (target (reg r 0) k)
unfolding does jump
jump-taken c k m r n h = ap (λ (b : Bool). at_pc r (if b then target (reg r 0) k else sum_of (reg r 0) 2)) h

pub jump-passed : (c : Cond) (k : ℤ) (m r : List ℕ) (n : ℕ) → holds c (reg r 2) ≡ false → does m r (instr.Jump c k) n ≡ at_pc r (sum_of (reg r 0) 2)
unfolding does jump
jump-passed c k m r n h = ap (λ (b : Bool). at_pc r (if b then target (reg r 0) k else sum_of (reg r 0) 2)) h

-- PC is set to a place of the guard
pub goes : (q : GuardPlace) (g : GuardAt) (b : Bounds) (kb : ℕ) (r : List ℕ) (a : ℕ) → g.at % 2 ≡ 0 → a ≡ g.at + 2 * place_offset q → a < 65536
    → IsSteady kb b.low b.top r → IsContext (words r) → IsStatus kb (reg r 5) → place_fact q b (set_reg (words r) 0 a) → GoesTo q g b kb (at_pc (words r) a)
unfolding set_reg
goes q g b kb r a v e f s k t known = record {
  steady = record { context = set-context _ 0 _ k f; room = s.room; within = s.within; status = s.status };
  place = record { pc = omega (arith, v, e); saved = λ _. t; known = known };
  silent = refl;
}

-- The module that a function is of, and the registers with which it begins.
use Rattle.std.proofs.Common.{◌≡◌, ◌≢◌, ℕ, ◌<◌, ◌≤◌, ◌%◌, List, [], ◌∷◌, get_or, replicate, inl, inr, refl, ap, sym, subst, ◌∙◌, arith}
use Rattle.std.proofs.lemmas.Bool.{cases_lt}
use Rattle.std.proofs.lemmas.List.{get_or_past}
use Rattle.machine_model.specs.Context.{set_reg}
use Rattle.machine_model.specs.Memory.{even}
use Rattle.kernel_model.specs.declared.states.TheConstants.{ENDED}
use Rattle.kernel_model.specs.declared.map.TheConstants.{KERNEL_TOP}
use Rattle.kernel_model.specs.Kernel.{Kernel, function_at, module_at, free_module}
use Rattle.kernel_model.specs.Words.{none, live, free}
use Rattle.kernel_model.specs.Modules.{ended_module, entered_context}
use Rattle.kernel_model.specs.declared.rows.ModuleRow.{ModuleRow}
use Rattle.place_model.specs.Settled.{IsSettledKernel}
use Rattle.kernel_model.specs.Modules.{HasKnownModules}

-- ---- the module

-- a module that runs
pub record IsCallee (k : Kernel) (i : ℕ) : Type 0 where
  pub number : i < 4
  pub alive : (module_at k i).state ≡ live

used_below : (k : Kernel) (i : ℕ) → IsSettledKernel k → (module_at k i).state ≢ free → i < 4
used_below k i h used =
    elim (cases_lt i 4) [
      | inl below ↦ below
      | inr past ↦ absurd (used (ap (λ (r : ModuleRow). r.state) (get_or_past k.modules i free_module (let size = h.orderly.shape.module_rows in omega arith))))
    ]

pub callee_is : (k : Kernel) (f i : ℕ) → IsSettledKernel k → HasKnownModules k → f < 64 → i ≡ (function_at k f).module → i ≢ none
    → (module_at k i).state ≢ ended_module → IsCallee k i
callee_is k f i h known below is some on =
    let used : (module_at k i).state ≢ free = subst (λ (j : ℕ). (module_at k j).state ≢ free) (sym is) (h.orderly.functions f below (λ e. some (is ∙ e))) in
    let number : i < 4 = used_below k i h used in
    let states : (module_at k i).state ≤ ENDED = known i number in
    record { number = number; alive = omega arith }

-- ---- its registers

even_same : (n : ℕ) → n % 2 ≡ 0 → even n ≡ n
even_same n h = omega arith

abbrev context_of : (pc first second : ℕ) → List ℕ
context_of pc x y = pc ∷ KERNEL_TOP ∷ 0 ∷ 0 ∷ 0 ∷ 0 ∷ 0 ∷ 0 ∷ 0 ∷ 0 ∷ 0 ∷ 0 ∷ x ∷ y ∷ 0 ∷ 0 ∷ []

four_set : (a x y : ℕ) → set_reg (set_reg (set_reg (set_reg (replicate 16 0) 0 a) 1 KERNEL_TOP) 12 x) 13 y ≡ context_of (even a) x y
unfolding set_reg
four_set a x y = refl

pub begins_with : (k : Kernel) (r r0 r1 r2 r3 r4 : List ℕ) (a x y : ℕ) → r0 ≡ replicate 16 0 → r1 ≡ set_reg r0 0 a → r2 ≡ set_reg r1 1 KERNEL_TOP
    → r3 ≡ set_reg r2 12 x → r4 ≡ set_reg r3 13 y → a ≡ (function_at k (get_or r 12 0)).address → (function_at k (get_or r 12 0)).address % 2 ≡ 0
    → x ≡ get_or r 13 0 → y ≡ get_or r 14 0 → r4 ≡ entered_context k r
begins_with k r r0 r1 r2 r3 r4 a x y e0 e1 e2 e3 e4 is ev first second =
    let pc : ℕ = (function_at k (get_or r 12 0)).address in
    e4 ∙ ap (λ q. set_reg q 13 y) (e3 ∙ ap (λ q. set_reg q 12 x) (e2 ∙ ap (λ q. set_reg q 1 KERNEL_TOP) (e1 ∙ ap (λ q. set_reg q 0 a) e0)))
    ∙ four_set a x y
    ∙ ap (λ p. context_of p x y) (ap (λ p. even p) is ∙ even_same pc ev)
    ∙ ap (λ v. context_of pc v y) first
    ∙ ap (λ v. context_of pc (get_or r 13 0) v) second

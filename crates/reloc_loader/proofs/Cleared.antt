-- The empty kernel is settled.
use Rattle.std.proofs.Common.{◌≡◌, ℕ, zero, suc, ◌%◌, ◌-◌, Bool, true, false, List, get_or, replicate, refl, sym, ap, ◌∙◌, subst}
use Rattle.std.specs.Prelude.{nat_lt, if◌then◌else◌}
use Rattle.kernel_model.specs.Kernel.{Kernel, module_at, free_app, free_module, free_function}
use Rattle.kernel_model.specs.Words.{free}
use Rattle.kernel_model.specs.Layout.{empty}
use Rattle.kernel_model.specs.Orderly.{IsOrderly}
use Rattle.kernel_model.specs.declared.rows.AppRow.{AppRow}
use Rattle.kernel_model.specs.declared.rows.ModuleRow.{ModuleRow}
use Rattle.kernel_model.specs.declared.rows.FnRow.{FnRow}
use Rattle.kernel_tables.specs.Clearing.{Cleared}
use Rattle.place_model.specs.declared.places.DomainRow.{DomainRow}
use Rattle.place_model.specs.Placing.{app_domain, module_domain, domain_at}
use Rattle.place_model.specs.Settled.{IsSettledKernel, IsSettled}

same_all : {X : Type 0} (n i : ℕ) (x : X) → get_or (replicate n x) i x ≡ x
same_all zero i x = refl
same_all (suc n) zero x = refl
same_all (suc n) (suc i) x = same_all n i x

all_free : (n : ℕ) → (domain_at empty n).state ≡ free
unfolding empty
all_free n =
    ap (λ (r : AppRow). (let d : DomainRow = if nat_lt n 8 then app_domain r else module_domain (module_at empty (n - 8)) in d.state)) (same_all 8 n free_app)
    ∙ ap (λ (r : ModuleRow). (let d : DomainRow = if nat_lt n 8 then app_domain free_app else module_domain r in d.state)) (same_all 4 (n - 8) free_module)
    ∙ either (nat_lt n 8)
  where
    either : (b : Bool) → (let d : DomainRow = if b then app_domain free_app else module_domain free_module in d.state) ≡ free
    either true = refl
    either false = refl

empty_settled : IsOrderly empty → IsSettledKernel empty
unfolding empty
empty_settled h = record {
  orderly = h;
  inside = λ p n l u. absurd (u (all_free n));
  apart = λ p n i l m d u v. absurd (u (all_free n));
  apps = λ a l u. absurd (u (ap (λ (r : AppRow). r.state) (same_all 8 a free_app)));
  functions = λ f l. ap (λ (r : FnRow). r.address % 2) (same_all 64 f free_function);
}

pub cleared_settled : IsOrderly empty → (before after : List ℕ) → Cleared before after → IsSettled after
cleared_settled h before after c = record {
  laid_out = c.laid_out;
  kernel = subst (λ (k : Kernel). IsSettledKernel k) (sym c.kernel) (empty_settled h);
}

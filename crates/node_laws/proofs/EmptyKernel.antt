-- The empty kernel is settled.
use Rattle.std.proofs.Common.{◌≡◌, ℕ, ◌-◌, ◌%◌, Bool, true, false, cond, refl, ap, ◌∙◌}
use Rattle.std.specs.Prelude.{nat_lt}
use Rattle.kernel_model.specs.Kernel.{module_at, free_app, free_module, free_function}
use Rattle.kernel_model.specs.Words.{free}
use Rattle.kernel_model.specs.Layout.{empty}
use Rattle.kernel_model.proofs.EmptyLemmas.{same_row, empty_orderly}
use Rattle.place_model.specs.Placing.{domain_at, app_domain, module_domain}
use Rattle.place_model.specs.Settled.{IsSettledKernel}
use Rattle.kernel_model.specs.declared.rows.AppRow.{AppRow}
use Rattle.kernel_model.specs.declared.rows.ModuleRow.{ModuleRow}
use Rattle.kernel_model.specs.declared.rows.FnRow.{FnRow}

free-domain : (b : Bool) → (cond b (app_domain free_app) (module_domain free_module)).state ≡ free
free-domain true = refl
free-domain false = refl

unused : (n : ℕ) → (domain_at empty n).state ≡ free
unfolding empty
unused n =
    ap (λ (r : AppRow). (cond (nat_lt n 8) (app_domain r) (module_domain (module_at empty (n - 8)))).state) (same_row 8 n free_app)
    ∙ ap (λ (r : ModuleRow). (cond (nat_lt n 8) (app_domain free_app) (module_domain r)).state) (same_row 4 (n - 8) free_module)
    ∙ free-domain (nat_lt n 8)

pub empty-settled : IsSettledKernel empty
unfolding empty
empty-settled = record {
  orderly = empty_orderly;
  inside = λ p n l used. absurd (used (unused n));
  apart = λ p n i l m ne used. absurd (used (unused n));
  apps = λ a l used. absurd (used (ap (λ (r : AppRow). r.state) (same_row 8 a free_app)));
  functions = λ f l. ap (λ (r : FnRow). r.address % 2) (same_row 64 f free_function);
}

-- A settled kernel in which an object is loaded.
use Rattle.std.proofs.Common.{◌≡◌, ℕ, zero, suc, ◌+◌, ◌-◌, ◌*◌, ◌%◌, ◌<◌, ◌≤◌, refl, sym, ap, ◌∙◌, subst, arith}
use Rattle.std.specs.Prelude.{nat_lt, Ok}
use Rattle.std.proofs.lemmas.Bool.{eqb-true, lt-ltb, le-ltb, cond-true, cond-false}
use Rattle.std.proofs.lemmas.List.{get_or-set_same}
use Rattle.kernel_model.specs.declared.kinds.Kind.{Kind}
use Rattle.kernel_model.specs.declared.kinds.Kind.TheVariants.{App, Module}
use Rattle.kernel_model.specs.Kernel.{Kernel, app_at, with_app, module_at, free_module}
use Rattle.kernel_model.specs.Words.{free, live, identity}
use Rattle.kernel_model.specs.declared.rows.ModuleRow.{ModuleRow}
use Rattle.code_model.specs.declared.object.Object.{Object}
use Rattle.place_model.specs.declared.places.DomainRow.{DomainRow}
use Rattle.place_model.specs.declared.places.Regions.{Regions}
use Rattle.place_model.specs.Placing.{placing, app_domain, module_domain, domain_rows, domain_at, first_number, number_count, placed_app, placed_module, with_places, IsLeastFree, IsPlacing, IsInPools}
use Rattle.place_model.specs.Settled.{IsSettledKernel}
use Rattle.place_model.proofs.NumberLemmas.{row_is}
use Rattle.place_model.proofs.PlacingLemmas.{chosen, placing_is, placing_inside}
use Rattle.place_model.proofs.SettledLemmas.{placing_even, placing_settled}
use Rattle.load_model.specs.Domains.{code_length, region_length}
use Rattle.load_model.specs.Loading.{loaded_kernel, loaded_module, placed_row}
use Rattle.load_model.specs.Laws.{PlacedLaw, LoadedLaw}
use Rattle.load_model.proofs.AppRows.{app_row, settled_app}
use Rattle.load_model.proofs.Registers.{settled_register}
use Rattle.load_model.proofs.ExportRows.{settled_exports}

-- ---- a region of whole words

even_times : (n s : ℕ) → s % 2 ≡ 0 → (n * s) % 2 ≡ 0
even_times zero s e = omega arith
even_times (suc n) s e = let h : (n * s) % 2 ≡ 0 = even_times n s e in omega (arith, h)

even_stack : (kind : Kind) (o : Object) → o.kind ≡ kind → o.stack % 2 ≡ 0
even_stack App o e = (o.form.app e).stack_even
even_stack Module o e = ap (λ (s : ℕ). s % 2) (o.form.of_module e).no_stack

pub even_region : (o : Object) → region_length o % 2 ≡ 0
even_region o = omega (arith, even_times o.threads o.stack (even_stack o.kind o refl))

-- ---- the row of the number that is chosen is free

pub free_row : (k : Kernel) (kind : Kind) (c l : ℕ) (r : Regions) → IsSettledKernel k → IsPlacing k kind c l r
    → (domain_at k r.dom).state ≡ free
free_row k kind c l r h g =
    let n : IsLeastFree (domain_rows k) (first_number kind) (number_count kind) r.dom = chosen k kind r.dom g.number in
    ap (λ (d : DomainRow). d.state) (sym (row_is k r.dom h.orderly.shape.app_rows)) ∙ eqb-true _ 0 n.free

pub free_app_row : (k : Kernel) (n : ℕ) → n < 8 → (domain_at k n).state ≡ free → (app_at k n).state ≡ free
free_app_row k n l e =
    ap (λ (d : DomainRow). d.state)
    (sym (cond-true (nat_lt n 8) (app_domain (app_at k n)) (module_domain (module_at k (n - 8))) (lt-ltb n 8 l))) ∙ e

-- ---- a module

module_places : (k : Kernel) (r : Regions) → 8 ≤ r.dom → with_places k r ≡ placed_row k r
module_places k r l = cond-false (nat_lt r.dom 8) (with_app k r.dom (placed_app r)) (placed_row k r) (le-ltb r.dom 8 l)

pub placed_settled : PlacedLaw
placed_settled k o r h kind e =
    let pools : IsInPools Module r = placing_inside k Module (code_length o) (region_length o) r e in
    subst (λ (x : Kernel). IsSettledKernel x) (module_places k r pools.number_from)
    (placing_settled k Module (code_length o) (region_length o) r h (omega arith) (even_region o) e)

module_settled : (k : Kernel) (o : Object) (r : Regions) → IsSettledKernel k → o.kind ≡ Module
    → placing k Module (code_length o) (region_length o) ≡ Ok r → IsSettledKernel (loaded_module k o r)
module_settled k o r h kind e =
    let pools : IsInPools Module r = placing_inside k Module (code_length o) (region_length o) r e in
    let to : r.dom < 12 = pools.number_to in
    let here : module_at (placed_row k r) (r.dom - 8) ≡ placed_module r =
    get_or-set_same k.modules (r.dom - 8) (placed_module r) free_module (omega (arith, pools.number_from, h.orderly.shape.module_rows)) in
    let state : (module_at (placed_row k r) (r.dom - 8)).state ≡ live = ap (λ (x : ModuleRow). x.state) here in
    settled_exports (placed_row k r) (r.dom - 8) r.code_lo o.exports (placed_settled k o r h kind e) (λ q. omega arith)
    (placing_even k Module (code_length o) (region_length o) r h e).0 (λ j d l. (o.form.exports_fit j d l).even)

-- ---- an application

app_settled : (k : Kernel) (o : Object) (r : Regions) → IsSettledKernel k → o.kind ≡ App
    → placing k App (code_length o) (region_length o) ≡ Ok r → IsSettledKernel (loaded_kernel App k o r)
app_settled k o r h kind e =
    let c : ℕ = code_length o in
    let l : ℕ = region_length o in
    let lowest : IsPlacing k App c l r = placing_is k App c l r e in
    let pools : IsInPools App r = placing_inside k App c l r e in
    let below : r.dom < 8 = omega (arith, pools.number_to) in
    settled_register (with_app k r.dom (app_row o r)) (identity r.dom 0) 0 (r.code_lo + o.entry) (omega arith)
    (settled_app k o r h kind below (free_app_row k r.dom below (free_row k App c l r h lowest)) lowest.region_end
    (placing_settled k App c l r h (omega arith) (even_region o) e))

by_kind : (kind : Kind) (k : Kernel) (o : Object) (r : Regions) → IsSettledKernel k → o.kind ≡ kind
    → placing k kind (code_length o) (region_length o) ≡ Ok r → IsSettledKernel (loaded_kernel kind k o r)
by_kind App k o r h kind e = app_settled k o r h kind e
by_kind Module k o r h kind e = module_settled k o r h kind e

pub loaded_settled : LoadedLaw
loaded_settled k o r h e = by_kind o.kind k o r h refl e

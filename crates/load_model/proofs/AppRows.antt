-- A settled kernel with the row of a placed application.
use Rattle.std.proofs.Common.{◌≡◌, ◌≢◌, ℕ, ◌+◌, ◌-◌, ◌<◌, length, refl, sym, ap, ◌∙◌, subst, inl, inr, arith}
use Rattle.std.specs.Prelude.{nat_lt, if◌then◌else◌}
use Rattle.std.proofs.lemmas.Bool.{cases_eq, lt-ltb, cond-true}
use Rattle.std.proofs.lemmas.List.{get_or-set_same, get_or-set_other}
use Rattle.kernel_model.specs.declared.kinds.Kind.TheVariants.{App}
use Rattle.kernel_model.specs.Kernel.{Kernel, with_app, app_at, with_module, module_at, free_app}
use Rattle.kernel_model.specs.Words.{free, live}
use Rattle.kernel_model.specs.declared.rows.AppRow.{AppRow}
use Rattle.code_model.specs.declared.object.Object.{Object}
use Rattle.code_model.specs.Statics.{static_size}
use Rattle.place_model.specs.declared.places.DomainRow.{DomainRow}
use Rattle.place_model.specs.declared.places.Regions.{Regions}
use Rattle.place_model.specs.Placing.{app_domain, module_domain, domain_at, pool_range, range_in, with_places, placed_app, placed_module}
use Rattle.place_model.specs.Settled.{IsInPool, AreApart, IsAppPlace, IsInUse, IsSettledKernel}
use Rattle.place_model.proofs.OrderlyPlaced.{orderly_app}
use Rattle.load_model.specs.Domains.{region_length}

-- ---- an application's row

abbrev pub app_row : Object → Regions → AppRow
app_row o r = record {
  state = live;
  code_lo = r.code_lo;
  code_hi = r.code_hi;
  lo = r.lo;
  hi = r.hi;
  z = static_size o;
  stack = o.stack;
  threads = o.threads;
}

app_place : (o : Object) (r : Regions) → o.kind ≡ App → r.hi ≡ r.lo + region_length o → IsAppPlace (app_row o r)
app_place o r e h =
    let f = o.form.app e in
    record { threads = f.threads_most; z_even = omega arith; stack_even = f.stack_even; fits = omega (arith, h) }

-- among rows that have the places, another row with these places
same_domain : (k : Kernel) (r : Regions) (row : AppRow) (n : ℕ) → r.dom < length k.apps → app_domain row ≡ app_domain (placed_app r)
    → domain_at (with_app k r.dom row) n ≡ domain_at (with_app k r.dom (placed_app r)) n
same_domain k r row n l e = elim (cases_eq n r.dom) [
  | inl q ↦ ap (λ (x : DomainRow). if nat_lt n 8 then x else module_domain (module_at k (n - 8)))
      (here row q ∙ e ∙ sym (here (placed_app r) q))
  | inr ne ↦ ap (λ (x : AppRow). if nat_lt n 8 then app_domain x else module_domain (module_at k (n - 8)))
      (other row ne ∙ sym (other (placed_app r) ne))
]
  where
    here : (x : AppRow) → n ≡ r.dom → app_domain (app_at (with_app k r.dom x) n) ≡ app_domain x
    here x q = ap (λ (i : ℕ). app_domain (app_at (with_app k r.dom x) i)) q
        ∙ ap app_domain (get_or-set_same k.apps r.dom x free_app l)

    other : (x : AppRow) → n ≢ r.dom → app_at (with_app k r.dom x) n ≡ app_at k n
    other x ne = get_or-set_other k.apps r.dom n x free_app ne

pub settled_app : (k : Kernel) (o : Object) (r : Regions) → IsSettledKernel k → o.kind ≡ App → r.dom < 8
    → (app_at k r.dom).state ≡ free → r.hi ≡ r.lo + region_length o → IsSettledKernel (with_places k r)
    → IsSettledKernel (with_app k r.dom (app_row o r))
settled_app k o r h kind l was size placed =
    let l8 : r.dom < length k.apps = omega (arith, h.orderly.shape.app_rows) in
    let row : AppRow = app_row o r in
    let j : Kernel = with_app k r.dom row in
    let i : Kernel = with_app k r.dom (placed_app r) in
    let p : IsSettledKernel i = subst (λ (x : Kernel). IsSettledKernel x)
    (cond-true (nat_lt r.dom 8) i (with_module k (r.dom - 8) (placed_module r)) (lt-ltb r.dom 8 l)) placed in
    let same : (n : ℕ) → domain_at j n ≡ domain_at i n = λ n. same_domain k r row n l8 refl in
    let used : (n : ℕ) → IsInUse j n → IsInUse i n = λ n u. subst (λ (x : DomainRow). x.state ≢ free) (same n) u in
    record {
      orderly = orderly_app k h.orderly r.dom row was;
      inside = λ q n b u.
          subst (λ (x : DomainRow). IsInPool (pool_range q) (range_in q x)) (sym (same n)) (p.inside q n b (used n u));
      apart = λ q n m b c d u v.
          subst (λ (x : DomainRow). AreApart (range_in q x) (range_in q (domain_at j m))) (sym (same n))
          (subst (λ (x : DomainRow). AreApart (range_in q (domain_at i n)) (range_in q x)) (sym (same m))
          (p.apart q n m b c d (used n u) (used m v)));
      apps = λ b c u. elim (cases_eq b r.dom) [
        | inl q ↦ subst (λ (x : AppRow). IsAppPlace x)
            (sym (ap (λ (a : ℕ). app_at j a) q ∙ get_or-set_same k.apps r.dom row free_app l8)) (app_place o r kind size)
        | inr ne ↦
            let old : app_at j b ≡ app_at k b = get_or-set_other k.apps r.dom b row free_app ne in
            subst (λ (x : AppRow). IsAppPlace x) (sym old) (h.apps b c (subst (λ (x : AppRow). x.state ≢ free) old u))
      ];
      functions = h.functions;
    }

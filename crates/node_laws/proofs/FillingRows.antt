-- The rows and the domains of a kernel in which an object was placed.
use Rattle.std.proofs.Common.{◌≡◌, ◌≢◌, ℕ, ◌+◌, ◌-◌, ◌/◌, ◌%◌, ◌<◌, ◌≤◌, List, true, length, get_or, set, refl, sym, ap, ◌∙◌, subst, inl, inr, arith, length-set, Option, Some, None}
use Rattle.std.specs.Prelude.{nat_lt, nat_le, ◌==◌}
use Rattle.std.proofs.lemmas.Bool.{cases_eq, eqb-true, eq-eqb, le-leb, lt-ltb, le-ltb, cond-true, cond-false, and_from}
use Rattle.std.proofs.lemmas.List.{get_or-set_same, get_or-set_other}
use Rattle.kernel_model.specs.declared.kinds.Kind.{Kind}
use Rattle.kernel_model.specs.declared.kinds.Kind.TheVariants.{App, Module}
use Rattle.kernel_model.specs.Kernel.{Kernel, app_at, module_at, function_at, free_app, free_module}
use Rattle.kernel_model.specs.Words.{free}
use Rattle.kernel_model.specs.declared.rows.AppRow.{AppRow}
use Rattle.kernel_model.specs.declared.rows.ModuleRow.{ModuleRow}
use Rattle.code_model.specs.Guards.{UnitStart}
use Rattle.code_model.specs.Verdicts.{IsAccepted}
use Rattle.place_model.specs.declared.places.DomainRow.{DomainRow}
use Rattle.place_model.specs.declared.places.Regions.{Regions}
use Rattle.place_model.specs.Placing.{app_domain, module_domain, domain_rows, domain_at, first_number, number_count, placed_module, IsLeastFree, IsPlacing}
use Rattle.place_model.specs.Settled.{IsSettledKernel}
use Rattle.place_model.proofs.NumberLemmas.{row_is}
use Rattle.place_model.proofs.PlacingLemmas.{chosen}
use Rattle.load_model.specs.Domains.{Domain, code_length, region_length}
use Rattle.node_model.specs.Systems.{domain_in, kind_of, is_mark, is_mark_in, is_unit_address, has_bit}
use Rattle.load_model.specs.Loading.{Loadable, domain_of}
use Rattle.node_model.specs.Sound.{HasDomain, HasRow, IsAppRowOf, IsModuleRowOf, IsDomain, AreDomains, AreFunctions}
use Rattle.load_model.proofs.AppRows.{app_row}

-- ---- the row of the number that is chosen is free

pub free-row : (k : Kernel) (kind : Kind) (c l : ℕ) (r : Regions) → IsSettledKernel k → IsPlacing k kind c l r
    → (domain_at k r.dom).state ≡ free
free-row k kind c l r h g =
    let n : IsLeastFree (domain_rows k) (first_number kind) (number_count kind) r.dom = chosen k kind r.dom g.number in
    ap (λ (d : DomainRow). d.state) (sym (row_is k r.dom h.orderly.shape.app_rows)) ∙ eqb-true _ 0 n.free

pub free-app : (k : Kernel) (n : ℕ) → n < 8 → (domain_at k n).state ≡ free → (app_at k n).state ≡ free
free-app k n l e =
    ap (λ (d : DomainRow). d.state)
    (sym (cond-true (nat_lt n 8) (app_domain (app_at k n)) (module_domain (module_at k (n - 8))) (lt-ltb n 8 l))) ∙ e

pub free-module : (k : Kernel) (n m : ℕ) → 8 + m ≡ n → (domain_at k n).state ≡ free → (module_at k m).state ≡ free
free-module k n m q e =
    let same : n - 8 ≡ m = omega arith in
    ap (λ (i : ℕ). (module_at k i).state) (sym same)
    ∙ ap (λ (d : DomainRow). d.state)
    (sym (cond-false (nat_lt n 8) (app_domain (app_at k n)) (module_domain (module_at k (n - 8))) (le-ltb n 8 (omega arith)))) ∙ e

-- ---- the domain with a number, where one was put

pub domain-new : (ds : List (Option Domain)) (dom n : ℕ) (d x : Domain) → dom < length ds → n ≡ dom
    → domain_in (set ds dom (Some d)) n ≡ Some x → d ≡ x
domain-new ds dom n d x l q e =
    let same : Some d ≡ Some x = sym (get_or-set_same ds dom (Some d) None l) ∙ ap (domain_in (set ds dom (Some d))) (sym q) ∙ e in
    cc

pub domain-put : (ds : List (Option Domain)) (dom n : ℕ) (d : Domain) → dom < length ds → n ≡ dom
    → domain_in (set ds dom (Some d)) n ≡ Some d
domain-put ds dom n d l q = ap (domain_in (set ds dom (Some d))) q ∙ get_or-set_same ds dom (Some d) None l

pub domain-old : (ds : List (Option Domain)) (dom n : ℕ) (d : Domain) → n ≢ dom
    → domain_in (set ds dom (Some d)) n ≡ domain_in ds n
domain-old ds dom n d ne = get_or-set_other ds dom n (Some d) None ne

-- ---- all domains, where one row is new

row-stays : (kind : Kind) (apps apps1 : List AppRow) (modules modules1 : List ModuleRow) (n : ℕ) (d : Domain)
    → get_or apps1 n free_app ≡ get_or apps n free_app
    → ((i : ℕ) → n ≡ 8 + i → get_or modules1 i free_module ≡ get_or modules i free_module)
    → HasRow kind apps modules n d → HasRow kind apps1 modules1 n d
row-stays App apps apps1 modules modules1 n d e f h = subst (λ (x : AppRow). IsAppRowOf d x) (sym e) h
row-stays Module apps apps1 modules modules1 n d e f h =
    (h.0, h.1, subst (λ (x : ModuleRow). IsModuleRowOf d x) (sym (f h.0 h.1)) h.2)

-- lists of rows that differ from others at the number of a domain alone, where they have its row
pub record HasNew (apps apps1 : List AppRow) (modules modules1 : List ModuleRow) (dom : ℕ) (d : Domain) : Type 0 where
  pub new : IsDomain apps1 modules1 dom d
  pub apps_stay : (a : ℕ) → a ≢ dom → get_or apps1 a free_app ≡ get_or apps a free_app
  pub modules_stay : (i : ℕ) → 8 + i ≢ dom → get_or modules1 i free_module ≡ get_or modules i free_module

pub domains-with : (apps apps1 : List AppRow) (modules modules1 : List ModuleRow) (ds : List (Option Domain)) (dom : ℕ) (d : Domain)
    → HasNew apps apps1 modules modules1 dom d → AreDomains apps modules ds → AreDomains apps1 modules1 (set ds dom (Some d))
domains-with apps apps1 modules modules1 ds dom d w h = record {
  twelve = length-set ds dom (Some d) ∙ h.twelve;
  placed = λ n x e. elim (cases_eq n dom) [
    | inl q ↦ subst (λ (i : ℕ). IsDomain apps1 modules1 i x) (sym q)
        (subst (λ (y : Domain). IsDomain apps1 modules1 dom y) (domain-new ds dom n d x size q e) w.new)
    | inr ne ↦
        let old : IsDomain apps modules n x = h.placed n x (sym (domain-old ds dom n d ne) ∙ e) in
        record {
          below = old.below;
          accepted = old.accepted;
          kind = old.kind;
          region = old.region;
          row = row-stays (kind_of n) apps apps1 modules modules1 n x (w.apps_stay n ne)
              (λ i q. w.modules_stay i (λ z. ne (q ∙ z))) old.row;
        }
  ];
  apps_used = λ a l u. elim (cases_eq a dom) [
    | inl q ↦ (d, domain-put ds dom a d size q)
    | inr ne ↦
        let has : HasDomain ds a = h.apps_used a l (subst (λ (x : AppRow). x.state ≢ free) (w.apps_stay a ne) u) in
        (has.0, domain-old ds dom a d ne ∙ has.1)
  ];
  modules_used = λ i l u. elim (cases_eq (8 + i) dom) [
    | inl q ↦ (d, domain-put ds dom (8 + i) d size q)
    | inr ne ↦
        let has : HasDomain ds (8 + i) = h.modules_used i l (subst (λ (x : ModuleRow). x.state ≢ free) (w.modules_stay i ne) u) in
        (has.0, domain-old ds dom (8 + i) d ne ∙ has.1)
  ];
}
  where
    size : dom < length ds
    size = omega (arith, w.new.below, h.twelve)

-- the places are as long as the object
pub record HasLengths (o : Loadable) (r : Regions) : Type 0 where
  pub code : r.code_hi ≡ r.code_lo + code_length o.object
  pub region : r.hi ≡ r.lo + region_length o.object

pub new-app : (apps : List AppRow) (modules : List ModuleRow) (o : Loadable) (r : Regions) → length apps ≡ 8 → r.dom < 8
    → IsAccepted o.object o.units → o.object.kind ≡ App → HasLengths o r
    → HasNew apps (set apps r.dom (app_row o.object r)) modules modules r.dom (domain_of o r)
new-app apps modules o r size l a kind h = record {
  new = record {
    below = omega arith;
    accepted = a;
    kind = kind ∙ sym is;
    region = h.region;
    row = subst (λ (x : Kind). HasRow x (set apps r.dom (app_row o.object r)) modules r.dom (domain_of o r)) (sym is)
        (subst (λ (x : AppRow). IsAppRowOf (domain_of o r) x)
        (sym (get_or-set_same apps r.dom (app_row o.object r) free_app (omega arith))) row);
  };
  apps_stay = λ b ne. get_or-set_other apps r.dom b (app_row o.object r) free_app ne;
  modules_stay = λ i ne. refl;
}
  where
    is : kind_of r.dom ≡ App
    is = cond-true (nat_lt r.dom 8) App Module (lt-ltb r.dom 8 l)

    row : IsAppRowOf (domain_of o r) (app_row o.object r)
    row = record {
      used = λ e. omega (arith, e);
      known = omega arith;
      code_lo = refl;
      code_hi = h.code;
      lo = refl;
      hi = refl;
      z = refl;
      stack = refl;
      threads = refl;
    }

pub new-module : (apps : List AppRow) (modules : List ModuleRow) (o : Loadable) (r : Regions) → length modules ≡ 4 → 8 ≤ r.dom
    → r.dom < 12 → IsAccepted o.object o.units → o.object.kind ≡ Module → HasLengths o r
    → HasNew apps apps modules (set modules (r.dom - 8) (placed_module r)) r.dom (domain_of o r)
new-module apps modules o r size g l a kind h = record {
  new = record {
    below = l;
    accepted = a;
    kind = kind ∙ sym is;
    region = h.region;
    row = subst (λ (x : Kind). HasRow x apps (set modules (r.dom - 8) (placed_module r)) r.dom (domain_of o r)) (sym is) (
      r.dom - 8,
      omega arith,
      subst (λ (x : ModuleRow). IsModuleRowOf (domain_of o r) x)
          (sym (get_or-set_same modules (r.dom - 8) (placed_module r) free_module (omega arith))) row,
    );
  };
  apps_stay = λ b ne. refl;
  modules_stay = λ i ne. get_or-set_other modules (r.dom - 8) i (placed_module r) free_module (λ e. ne (omega arith));
}
  where
    is : kind_of r.dom ≡ Module
    is = cond-false (nat_lt r.dom 8) App Module (le-ltb r.dom 8 g)

    row : IsModuleRowOf (domain_of o r) (placed_module r)
    row = record {
      used = λ e. omega (arith, e);
      known = omega arith;
      code_lo = refl;
      code_hi = h.code;
      lo = refl;
      hi = refl;
    }

-- ---- functions

-- an exported function's module isn't the new domain, whose row was free
pub functions-stay : (k : Kernel) (ds : List (Option Domain)) (dom : ℕ) (d : Domain) → IsSettledKernel k
    → (domain_at k dom).state ≡ free → AreFunctions k.functions ds → AreFunctions k.functions (set ds dom (Some d))
functions-stay k ds dom d h was fs f l some =
    let i : ℕ = (function_at k f).module in
    let ne : 8 + i ≢ dom = λ q. h.orderly.functions f l some (free-module k dom i q was) in
    ap (λ (x : Option Domain). is_mark_in x (function_at k f).address) (domain-old ds dom (8 + i) d ne) ∙ fs f l some

-- ---- a unit start is a mark

pub is-unit : (d : Domain) (off : ℕ) → IsAccepted d.object d.units → d.code_lo % 2 ≡ 0 → off % 2 ≡ 0
    → off < code_length d.object → UnitStart d.object (off / 2) → is_unit_address d (d.code_lo + off) ≡ true
unfolding is_unit_address
is-unit d off a even half below unit =
    let at : ℕ = d.code_lo + off in
    let place : (at - d.code_lo) / 2 ≡ off / 2 = omega arith in
    and_from _ (has_bit d.units ((at - d.code_lo) / 2))
    (and_from _ (at % 2 == 0)
    (and_from (nat_le d.code_lo at) (nat_lt at (d.code_lo + code_length d.object)) (le-leb d.code_lo at (omega arith))
    (lt-ltb at (d.code_lo + code_length d.object) (omega arith)))
    (eq-eqb (at % 2) 0 (omega arith)))
    (ap (λ (x : ℕ). has_bit d.units x) place ∙ eq-eqb _ 1 ((a.units (off / 2)).1 unit))

pub is-mark : (ds : List (Option Domain)) (dom : ℕ) (d : Domain) (at : ℕ) → dom < length ds → is_unit_address d at ≡ true
    → is_mark (set ds dom (Some d)) dom at ≡ true
is-mark ds dom d at l e = ap (λ (x : Option Domain). is_mark_in x at) (get_or-set_same ds dom (Some d) None l) ∙ e

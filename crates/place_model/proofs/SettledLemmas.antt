-- A placing among settled domains leaves them settled.
use Rattle.std.proofs.Common.{◌≡◌, ◌≢◌, ℕ, ◌-◌, ◌%◌, ◌<◌, ◌≤◌, false, ltb, refl, ap, sym, ◌∙◌, subst, ⊎_elim, Ok, arith, length}
use Rattle.std.proofs.lemmas.Bool.{cases_lt, cases_eq, both_ways, lt-ltb, le-ltb, eq-eqb, eqb-true, ne_eqb, cond-true, cond-false}
use Rattle.std.proofs.lemmas.List.{get_or-set_same, get_or-set_other}
use Rattle.kernel_model.specs.declared.kinds.Kind.{Kind}
use Rattle.kernel_model.specs.declared.kinds.Kind.TheVariants.{App, Module}
use Rattle.kernel_model.specs.Kernel.{Kernel, app_at, with_app, module_at, with_module, free_app}
use Rattle.kernel_model.specs.Words.{free}
use Rattle.kernel_model.specs.declared.rows.AppRow.{AppRow}
use Rattle.place_model.specs.declared.places.Range.{Range}
use Rattle.place_model.specs.declared.places.Pool.{Pool}
use Rattle.place_model.specs.declared.places.Pool.TheVariants.{Code, Data}
use Rattle.place_model.specs.declared.places.DomainRow.{DomainRow}
use Rattle.place_model.specs.declared.places.Regions.{Regions}
use Rattle.place_model.specs.Placing.{app_domain, module_domain, domain_rows, domain_at, row_of, is_free, pool_range, range_in, ranges, placing, placed_app, placed_module, with_places, first_number, number_count, IsLeastFree, IsPlacing, IsInPools}
use Rattle.place_model.specs.Settled.{IsInPool, AreApart, IsAppPlace, IsInUse, IsSettledKernel}
use Rattle.place_model.proofs.Members.{In}
use Rattle.place_model.proofs.NumberLemmas.{row_is, row_count, in_ranges, Owner, owner, new_domain, at_new_app, at_other_app, at_new_module, at_other_module}
use Rattle.place_model.proofs.PlacingLemmas.{placing_is, placing_inside, chosen, place_apart, place_even}
use Rattle.place_model.proofs.OrderlyPlaced.{orderly_app, orderly_module}

-- ---- the domains that stand

used_at : (k : Kernel) (n : ℕ) → length k.apps ≡ 8 → IsInUse k n → is_free (row_of (domain_rows k) n) ≡ false
used_at k n size used = ne_eqb _ 0 (λ e. used (sym (ap (λ (r : DomainRow). r.state) (row_is k n size)) ∙ e))

member : (k : Kernel) (p : Pool) (n : ℕ) → IsSettledKernel k → n < 12 → IsInUse k n → In (range_in p (domain_at k n)) (ranges p (domain_rows k))
member k p n s h used =
    let size : length (domain_rows k) ≡ 12 = row_count k s.orderly.shape.app_rows s.orderly.shape.module_rows in
    subst (λ (r : DomainRow). In (range_in p r) (ranges p (domain_rows k))) (row_is k n s.orderly.shape.app_rows)
    (in_ranges p (domain_rows k) n (omega arith) (used_at k n s.orderly.shape.app_rows used))

ranges_inside : (k : Kernel) (p : Pool) (r : Range) → IsSettledKernel k → In r (ranges p (domain_rows k)) → IsInPool (pool_range p) r
ranges_inside k p r s h =
    let o : Owner p (domain_rows k) r = owner p (domain_rows k) r h in
    let size : length (domain_rows k) ≡ 12 = row_count k s.orderly.shape.app_rows s.orderly.shape.module_rows in
    let at : row_of (domain_rows k) o.number ≡ domain_at k o.number = row_is k o.number s.orderly.shape.app_rows in
    let used : IsInUse k o.number = λ e. both_ways (is_free (row_of (domain_rows k) o.number)) o.used
    (eq-eqb _ 0 (ap (λ (d : DomainRow). d.state) at ∙ e)) in
    subst (λ (x : Range). IsInPool (pool_range p) x) (ap (range_in p) (sym at) ∙ o.range) (s.inside p o.number (omega (arith, o.below)) used)

-- ---- the new domain

even_code : (k : Kernel) (kind : Kind) (c l : ℕ) (r : Regions) → IsSettledKernel k → IsPlacing k kind c l r → r.code_lo % 2 ≡ 0
even_code k kind c l r s p = place_even (pool_range Code) (ranges Code (domain_rows k)) c r.code_lo refl (λ x i. (ranges_inside k Code x s i).to_even) p.code

even_region : (k : Kernel) (kind : Kind) (c l : ℕ) (r : Regions) → IsSettledKernel k → IsPlacing k kind c l r → r.lo % 2 ≡ 0
even_region k kind c l r s p = place_even (pool_range Data) (ranges Data (domain_rows k)) l r.lo refl (λ x i. (ranges_inside k Data x s i).to_even) p.region

pub placing_even : (k : Kernel) (kind : Kind) (c l : ℕ) (r : Regions) → IsSettledKernel k → placing k kind c l ≡ Ok r → (r.code_lo % 2 ≡ 0) × (r.lo % 2 ≡ 0)
placing_even k kind c l r s h =
    let p : IsPlacing k kind c l r = placing_is k kind c l r h in
    (even_code k kind c l r s p, even_region k kind c l r s p)

new_inside : (k : Kernel) (kind : Kind) (c l : ℕ) (r : Regions) → IsSettledKernel k → c % 2 ≡ 0 → l % 2 ≡ 0 → IsPlacing k kind c l r → IsInPools kind r
    → (p : Pool) → IsInPool (pool_range p) (range_in p (new_domain r))
new_inside k kind c l r s c_even l_even g i Code =
    let even : r.code_lo % 2 ≡ 0 = even_code k kind c l r s g in
    record { from_even = even; to_even = omega (arith, g.code_end); from = i.code_from; up = i.code_up; to = i.code_to }
new_inside k kind c l r s c_even l_even g i Data =
    let even : r.lo % 2 ≡ 0 = even_region k kind c l r s g in
    record { from_even = even; to_even = omega (arith, g.region_end); from = i.region_from; up = i.region_up; to = i.region_to }

new_apart : (k : Kernel) (kind : Kind) (c l : ℕ) (r : Regions) → IsSettledKernel k → IsPlacing k kind c l r
    → (p : Pool) (n : ℕ) → n < 12 → IsInUse k n → AreApart (range_in p (new_domain r)) (range_in p (domain_at k n))
new_apart k kind c l r s g Code n h used =
    place_apart (pool_range Code) (ranges Code (domain_rows k)) c r.code_lo r.code_hi (range_in Code (domain_at k n)) g.code_end g.code (member k Code n s h used)
new_apart k kind c l r s g Data n h used =
    place_apart (pool_range Data) (ranges Data (domain_rows k)) l r.lo r.hi (range_in Data (domain_at k n)) g.region_end g.region (member k Data n s h used)

-- ---- all domains, where one number has the new one and the others are as before

record HasNew (k next : Kernel) (r : Regions) : Type 0 where
  new : domain_at next r.dom ≡ new_domain r
  other : (n : ℕ) → n ≢ r.dom → domain_at next n ≡ domain_at k n

inside_next : (k next : Kernel) (r : Regions) → HasNew k next r → ((p : Pool) → IsInPool (pool_range p) (range_in p (new_domain r)))
    → IsSettledKernel k → (p : Pool) (n : ℕ) → n < 12 → IsInUse next n → IsInPool (pool_range p) (range_in p (domain_at next n))
inside_next k next r w fits s p n h used = ⊎_elim
    (λ (e : n ≡ r.dom). subst (λ (d : DomainRow). IsInPool (pool_range p) (range_in p d)) (sym (ap (domain_at next) e ∙ w.new)) (fits p))
    (λ (ne : n ≡ r.dom → ⊥).
    let same : domain_at next n ≡ domain_at k n = w.other n ne in
    subst (λ (d : DomainRow). IsInPool (pool_range p) (range_in p d)) (sym same)
    (s.inside p n h (λ e. used (ap (λ (d : DomainRow). d.state) same ∙ e))))
    (cases_eq n r.dom)

apart_both : (x y : Range) → AreApart x y → AreApart y x
apart_both x y h = λ at a b. h at b a

both_sides : (next : Kernel) (p : Pool) (n i : ℕ) (x y : DomainRow) → domain_at next n ≡ x → domain_at next i ≡ y → AreApart (range_in p x) (range_in p y)
    → AreApart (range_in p (domain_at next n)) (range_in p (domain_at next i))
both_sides next p n i x y e f h =
    subst (λ (a : DomainRow). AreApart (range_in p a) (range_in p (domain_at next i))) (sym e)
    (subst (λ (b : DomainRow). AreApart (range_in p x) (range_in p b)) (sym f) h)

apart_next : (k next : Kernel) (r : Regions) → HasNew k next r
    → ((p : Pool) (n : ℕ) → n < 12 → IsInUse k n → AreApart (range_in p (new_domain r)) (range_in p (domain_at k n)))
    → IsSettledKernel k → (p : Pool) (n i : ℕ) → n < 12 → i < 12 → n ≢ i → IsInUse next n → IsInUse next i
    → AreApart (range_in p (domain_at next n)) (range_in p (domain_at next i))
apart_next k next r w free_of s p n i hn hi apart un ui = ⊎_elim
    (λ (e : n ≡ r.dom).
    let ne : i ≢ r.dom = λ q. apart (e ∙ sym q) in
    let same : domain_at next i ≡ domain_at k i = w.other i ne in
    let d : AreApart (range_in p (new_domain r)) (range_in p (domain_at k i)) = free_of p i hi (λ q. ui (ap (λ (d : DomainRow). d.state) same ∙ q)) in
    both_sides next p n i (new_domain r) (domain_at k i) (ap (domain_at next) e ∙ w.new) same d)
    (λ (ne : n ≡ r.dom → ⊥).
    let same : domain_at next n ≡ domain_at k n = w.other n ne in
    let used : IsInUse k n = λ q. un (ap (λ (d : DomainRow). d.state) same ∙ q) in
    ⊎_elim
    (λ (e : i ≡ r.dom).
    both_sides next p n i (domain_at k n) (new_domain r) same (ap (domain_at next) e ∙ w.new) (apart_both _ _ (free_of p n hn used)))
    (λ (ni : i ≡ r.dom → ⊥).
    let same_i : domain_at next i ≡ domain_at k i = w.other i ni in
    both_sides next p n i (domain_at k n) (domain_at k i) same same_i (s.apart p n i hn hi apart used (λ q. ui (ap (λ (d : DomainRow). d.state) same_i ∙ q))))
    (cases_eq i r.dom))
    (cases_eq n r.dom)

-- ---- the two kinds

was_free : (k : Kernel) (kind : Kind) (c l : ℕ) (r : Regions) → IsSettledKernel k → IsPlacing k kind c l r → (domain_at k r.dom).state ≡ free
was_free k kind c l r s g =
    let n : IsLeastFree (domain_rows k) (first_number kind) (number_count kind) r.dom = chosen k kind r.dom g.number in
    ap (λ (d : DomainRow). d.state) (sym (row_is k r.dom s.orderly.shape.app_rows)) ∙ eqb-true _ 0 n.free

app_next : (k : Kernel) (r : Regions) → IsSettledKernel k → r.dom < 8 → r.lo ≤ r.hi → (a : ℕ) → a < 8
    → (app_at (with_app k r.dom (placed_app r)) a).state ≢ free → IsAppPlace (app_at (with_app k r.dom (placed_app r)) a)
app_next k r s h up a ha used = ⊎_elim
    (λ (e : a ≡ r.dom).
    let new : app_at (with_app k r.dom (placed_app r)) a ≡ placed_app r =
    ap (λ (i : ℕ). app_at (with_app k r.dom (placed_app r)) i) e ∙ get_or-set_same k.apps r.dom (placed_app r) free_app (omega (arith, s.orderly.shape.app_rows)) in
    subst (λ (x : AppRow). IsAppPlace x) (sym new) (record { threads = omega arith; z_even = refl; stack_even = refl; fits = omega arith }))
    (λ (ne : a ≡ r.dom → ⊥).
    let same : app_at (with_app k r.dom (placed_app r)) a ≡ app_at k a = get_or-set_other k.apps r.dom a (placed_app r) free_app ne in
    subst (λ (x : AppRow). IsAppPlace x) (sym same) (s.apps a ha (λ e. used (ap (λ (x : AppRow). x.state) same ∙ e))))
    (cases_eq a r.dom)

settled_app : (k : Kernel) (kind : Kind) (c l : ℕ) (r : Regions) → IsSettledKernel k → c % 2 ≡ 0 → l % 2 ≡ 0 → IsPlacing k kind c l r → IsInPools kind r
    → r.dom < 8 → IsSettledKernel (with_app k r.dom (placed_app r))
settled_app k kind c l r s ce le g i h =
    let w : HasNew k (with_app k r.dom (placed_app r)) r = record { new = at_new_app k r h s.orderly.shape.app_rows; other = at_other_app k r } in
    let was : (app_at k r.dom).state ≡ free =
    ap (λ (d : DomainRow). d.state) (sym (cond-true (ltb r.dom 8) (app_domain (app_at k r.dom)) (module_domain (module_at k (r.dom - 8))) (lt-ltb r.dom 8 h)))
    ∙ was_free k kind c l r s g in
    record {
      orderly = orderly_app k s.orderly r.dom (placed_app r) was;
      inside = inside_next k (with_app k r.dom (placed_app r)) r w (new_inside k kind c l r s ce le g i) s;
      apart = apart_next k (with_app k r.dom (placed_app r)) r w (new_apart k kind c l r s g) s;
      apps = app_next k r s h i.region_up;
      functions = s.functions;
    }

settled_module : (k : Kernel) (kind : Kind) (c l : ℕ) (r : Regions) → IsSettledKernel k → c % 2 ≡ 0 → l % 2 ≡ 0 → IsPlacing k kind c l r → IsInPools kind r
    → 8 ≤ r.dom → r.dom < 12 → IsSettledKernel (with_module k (r.dom - 8) (placed_module r))
settled_module k kind c l r s ce le g i from to =
    let w : HasNew k (with_module k (r.dom - 8) (placed_module r)) r =
    record { new = at_new_module k r from to s.orderly.shape.module_rows; other = λ n ne. at_other_module k r n from ne } in
    record {
      orderly = orderly_module k s.orderly (r.dom - 8) (placed_module r) (omega arith) refl;
      inside = inside_next k (with_module k (r.dom - 8) (placed_module r)) r w (new_inside k kind c l r s ce le g i) s;
      apart = apart_next k (with_module k (r.dom - 8) (placed_module r)) r w (new_apart k kind c l r s g) s;
      apps = s.apps;
      functions = s.functions;
    }

number_below : (kind : Kind) (r : Regions) → IsInPools kind r → r.dom < 12
number_below App r i = omega (arith, i.number_to)
number_below Module r i = omega (arith, i.number_to)

pub placing_settled : (k : Kernel) (kind : Kind) (c l : ℕ) (r : Regions) → IsSettledKernel k → c % 2 ≡ 0 → l % 2 ≡ 0 → placing k kind c l ≡ Ok r
    → IsSettledKernel (with_places k r)
placing_settled k kind c l r s ce le h =
    let g : IsPlacing k kind c l r = placing_is k kind c l r h in
    let i : IsInPools kind r = placing_inside k kind c l r h in
    ⊎_elim
    (λ (b : r.dom < 8).
    subst (λ (x : Kernel). IsSettledKernel x)
    (sym (cond-true (ltb r.dom 8) (with_app k r.dom (placed_app r)) (with_module k (r.dom - 8) (placed_module r)) (lt-ltb r.dom 8 b)))
    (settled_app k kind c l r s ce le g i b))
    (λ (b : 8 ≤ r.dom).
    subst (λ (x : Kernel). IsSettledKernel x)
    (sym (cond-false (ltb r.dom 8) (with_app k r.dom (placed_app r)) (with_module k (r.dom - 8) (placed_module r)) (le-ltb r.dom 8 b)))
    (settled_module k kind c l r s ce le g i b (number_below kind r i)))
    (cases_lt r.dom 8)

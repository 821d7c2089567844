-- The number that is chosen, and the rows by number.
use Rattle.std.proofs.Common.{◌≡◌, ◌≢◌, ℕ, zero, suc, ◌+◌, ◌-◌, ◌<◌, ◌≤◌, Bool, true, false, cond, not, ltb, List, [], ◌∷◌, length, get_or, map, refl, ap, sym, ◌∙◌, subst, ⊎_elim, inl, inr, Option, Some, None, arith, length-append}
use Rattle.std.proofs.lemmas.Bool.{cases_lt, cases_eq, cases_Bool, not-true, lt-ltb, le-ltb, cond-true, cond-false}
use Rattle.std.proofs.lemmas.List.{length-map, get_or_append_left, get_or-append_right, get_or-map, get_or_past, get_or-set_same, get_or-set_other}
use Rattle.std.specs.List.{find, filter, range_with_len}
use Rattle.kernel_model.specs.declared.states.TheConstants.{LIVE}
use Rattle.kernel_model.specs.Kernel.{Kernel, app_at, with_app, module_at, with_module, free_app, free_module}
use Rattle.kernel_model.specs.declared.rows.AppRow.{AppRow}
use Rattle.kernel_model.specs.declared.rows.ModuleRow.{ModuleRow}
use Rattle.place_model.specs.declared.places.Range.{Range}
use Rattle.place_model.specs.declared.places.Pool.{Pool}
use Rattle.place_model.specs.declared.places.DomainRow.{DomainRow}
use Rattle.place_model.specs.declared.places.Regions.{Regions}
use Rattle.place_model.specs.Placing.{app_domain, module_domain, domain_rows, free_domain, row_of, is_free, domain_at, range_in, ranges, free_from, IsLeastFree, placed_app, placed_module}
use Rattle.place_model.proofs.Members.{In, in_map, map_in, in_filter, filter_in}

-- ---- the least number

some_value : Option ℕ → ℕ
some_value (Some n) = n
some_value None = 0

is_some_number : Option ℕ → Type 0
is_some_number (Some n) = Unit
is_some_number None = ⊥

-- a number that a search over a range of numbers finds
record Found (test : ℕ → Bool) (first count number : ℕ) : Type 0 where
  from : first ≤ number
  to : number < first + count
  passes : test number ≡ true
  least : (n : ℕ) → first ≤ n → n < number → test n ≡ false

found : (test : ℕ → Bool) (first count number : ℕ) → find test (range_with_len first count) ≡ Some number → Found test first count number
unfolding some_value is_some_number
found test first zero number h = absurd (subst is_some_number (sym h) tt)
found test first (suc n) number h = ⊎_elim
    (λ (t : test first ≡ true).
    let same : first ≡ number = ap some_value (sym (cond-true (test first) (Some first) (find test (range_with_len (first + 1) n)) t) ∙ h) in
    record {
      from = omega arith;
      to = omega arith;
      passes = ap test (sym same) ∙ t;
      least = λ k a b. absurd (omega arith);
    })
    (λ (f : test first ≡ false).
    let rest : Found test (first + 1) n number =
    found test (first + 1) n number (sym (cond-false (test first) (Some first) (find test (range_with_len (first + 1) n)) f) ∙ h) in
    record {
      from = omega (arith, rest.from);
      to = omega (arith, rest.to);
      passes = rest.passes;
      least = λ k a b. ⊎_elim
          (λ (e : k ≡ first). ap test e ∙ f)
          (λ (ne : k ≡ first → ⊥). rest.least k (omega arith) b)
          (cases_eq k first);
    })
    (cases_Bool (test first))

pub least_free : (rows : List DomainRow) (first count number : ℕ) → free_from rows first count ≡ Some number → IsLeastFree rows first count number
unfolding free_from
least_free rows first count number h =
    let f : Found (λ n. is_free (row_of rows n)) first count number = found (λ n. is_free (row_of rows n)) first count number h in
    record { from = f.from; to = f.to; free = f.passes; least = f.least }

not_found : (test : ℕ → Bool) (first count : ℕ) → find test (range_with_len first count) ≡ None → (n : ℕ) → first ≤ n → n < first + count → test n ≡ false
unfolding is_some_number
not_found test first zero h n a b = absurd (omega arith)
not_found test first (suc count) h n a b = ⊎_elim
    (λ (t : test first ≡ true).
    absurd (subst is_some_number (sym (cond-true (test first) (Some first) (find test (range_with_len (first + 1) count)) t) ∙ h) tt))
    (λ (f : test first ≡ false).
    let rest : find test (range_with_len (first + 1) count) ≡ None =
    sym (cond-false (test first) (Some first) (find test (range_with_len (first + 1) count)) f) ∙ h in
    ⊎_elim
    (λ (e : n ≡ first). ap test e ∙ f)
    (λ (ne : n ≡ first → ⊥). not_found test (first + 1) count rest n (omega arith) (omega arith))
    (cases_eq n first))
    (cases_Bool (test first))

pub none_free : (rows : List DomainRow) (first count : ℕ) → free_from rows first count ≡ None → (n : ℕ) → first ≤ n → n < first + count → is_free (row_of rows n) ≡ false
unfolding free_from
none_free rows first count h = not_found (λ n. is_free (row_of rows n)) first count h

-- ---- rows by number

module_is : (k : Kernel) (i : ℕ) → get_or (map module_domain k.modules) i free_domain ≡ module_domain (module_at k i)
module_is k i = ⊎_elim
    (λ (l : i < length k.modules). get_or-map module_domain k.modules i free_module free_domain l)
    (λ (g : length k.modules ≤ i).
    get_or_past (map module_domain k.modules) i free_domain (omega (arith, length-map k.modules module_domain))
    ∙ ap module_domain (sym (get_or_past k.modules i free_module g)))
    (cases_lt i (length k.modules))

pub row_is : (k : Kernel) (n : ℕ) → length k.apps ≡ 8 → row_of (domain_rows k) n ≡ domain_at k n
row_is k n size = ⊎_elim
    (λ (l : n < 8).
    get_or_append_left (map app_domain k.apps) (map module_domain k.modules) free_domain n (omega (arith, length-map k.apps app_domain))
    ∙ get_or-map app_domain k.apps n free_app free_domain (omega arith)
    ∙ sym (cond-true (ltb n 8) (app_domain (app_at k n)) (module_domain (module_at k (n - 8))) (lt-ltb n 8 l)))
    (λ (g : 8 ≤ n).
    get_or-append_right (map app_domain k.apps) (map module_domain k.modules) 8 n free_domain (length-map k.apps app_domain ∙ size) g
    ∙ module_is k (n - 8)
    ∙ sym (cond-false (ltb n 8) (app_domain (app_at k n)) (module_domain (module_at k (n - 8))) (le-ltb n 8 g)))
    (cases_lt n 8)

pub row_count : (k : Kernel) → length k.apps ≡ 8 → length k.modules ≡ 4 → length (domain_rows k) ≡ 12
row_count k a m =
    let whole : length (domain_rows k) ≡ length (map app_domain k.apps) + length (map module_domain k.modules) =
    length-append (map app_domain k.apps) (map module_domain k.modules) in
    omega (arith, length-map k.apps app_domain, length-map k.modules module_domain)

in_row : (rows : List DomainRow) (n : ℕ) → n < length rows → In (row_of rows n) rows
in_row [] n h = absurd (omega arith)
in_row (r ∷ rs) zero h = inl refl
in_row (r ∷ rs) (suc n) h = inr (in_row rs n (omega arith))

row_in : (rows : List DomainRow) (r : DomainRow) → In r rows → (n : ℕ) × (n < length rows) × (row_of rows n ≡ r)
row_in [] r h = absurd h
row_in (x ∷ xs) r (inl e) = (0, omega arith, e)
row_in (x ∷ xs) r (inr h) = let p : (n : ℕ) × (n < length xs) × (row_of xs n ≡ r) = row_in xs r h in (suc p.0, omega (arith, p.1), p.2)

-- what a domain in use has of a pool is among the ranges, and each of the ranges is a domain's in use
pub in_ranges : (p : Pool) (rows : List DomainRow) (n : ℕ) → n < length rows → is_free (row_of rows n) ≡ false → In (range_in p (row_of rows n)) (ranges p rows)
in_ranges p rows n h used =
    in_map (range_in p) (filter (λ r. not (is_free r)) rows) (row_of rows n)
    (in_filter (λ r. not (is_free r)) rows (row_of rows n) (in_row rows n h) (ap not used))

pub record Owner (p : Pool) (rows : List DomainRow) (s : Range) : Type 0 where
  pub number : ℕ
  pub below : number < length rows
  pub used : is_free (row_of rows number) ≡ false
  pub range : range_in p (row_of rows number) ≡ s

pub owner : (p : Pool) (rows : List DomainRow) (s : Range) → In s (ranges p rows) → Owner p rows s
owner p rows s h =
    let m : (r : DomainRow) × In r (filter (λ r. not (is_free r)) rows) × (range_in p r ≡ s) = map_in (range_in p) (filter (λ r. not (is_free r)) rows) s h in
    let f : In m.0 rows × (not (is_free m.0) ≡ true) = filter_in (λ r. not (is_free r)) rows m.0 m.1 in
    let n : (n : ℕ) × (n < length rows) × (row_of rows n ≡ m.0) = row_in rows m.0 f.0 in
    record {
      number = n.0;
      below = n.1;
      used = ap is_free n.2 ∙ not-true (is_free m.0) f.1;
      range = ap (range_in p) n.2 ∙ m.2;
    }

-- ---- the row with the places

abbrev pub new_domain : Regions → DomainRow
new_domain r =
    record { state = LIVE; code = record { from = r.code_lo; to = r.code_hi }; region = record { from = r.lo; to = r.hi } }

pub at_new_app : (k : Kernel) (r : Regions) → r.dom < 8 → length k.apps ≡ 8 → domain_at (with_app k r.dom (placed_app r)) r.dom ≡ new_domain r
at_new_app k r h size =
    cond-true (ltb r.dom 8) _ _ (lt-ltb r.dom 8 h)
    ∙ ap app_domain (get_or-set_same k.apps r.dom (placed_app r) free_app (omega arith))

pub at_other_app : (k : Kernel) (r : Regions) (n : ℕ) → n ≢ r.dom → domain_at (with_app k r.dom (placed_app r)) n ≡ domain_at k n
at_other_app k r n apart =
    ap (λ (x : AppRow). cond (ltb n 8) (app_domain x) (module_domain (module_at k (n - 8)))) (get_or-set_other k.apps r.dom n (placed_app r) free_app apart)

pub at_new_module : (k : Kernel) (r : Regions) → 8 ≤ r.dom → r.dom < 12 → length k.modules ≡ 4 → domain_at (with_module k (r.dom - 8) (placed_module r)) r.dom ≡ new_domain r
at_new_module k r g h size =
    cond-false (ltb r.dom 8) _ _ (le-ltb r.dom 8 g)
    ∙ ap module_domain (get_or-set_same k.modules (r.dom - 8) (placed_module r) free_module (omega arith))

pub at_other_module : (k : Kernel) (r : Regions) (n : ℕ) → 8 ≤ r.dom → n ≢ r.dom → domain_at (with_module k (r.dom - 8) (placed_module r)) n ≡ domain_at k n
at_other_module k r n g apart = ⊎_elim
    (λ (l : n < 8).
    cond-true (ltb n 8) (app_domain (app_at k n)) (module_domain (module_at (with_module k (r.dom - 8) (placed_module r)) (n - 8))) (lt-ltb n 8 l)
    ∙ sym (cond-true (ltb n 8) (app_domain (app_at k n)) (module_domain (module_at k (n - 8))) (lt-ltb n 8 l)))
    (λ (m : 8 ≤ n).
    ap (λ (x : ModuleRow). cond (ltb n 8) (app_domain (app_at k n)) (module_domain x))
    (get_or-set_other k.modules (r.dom - 8) (n - 8) (placed_module r) free_module (λ e. apart (omega arith))))
    (cases_lt n 8)

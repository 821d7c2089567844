-- The domains of a node are those of its objects at the places of the rows.
use Rattle.std.proofs.Common.{◌≡◌, ℕ, ◌<◌, Bool, true, false, eqb, List, length, refl, sym, ap, ◌∙◌, arith, Option, None, Some}
use Rattle.std.specs.Prelude.{if◌then◌else◌, slice_index_or, slice_get}
use Rattle.std.specs.Option.{option_map}
use Rattle.std.proofs.lemmas.List.{ext_get_or}
use Rattle.std.proofs.lemmas.List.FromFn.{length-map-range_with_len, get_or-map-range_with_len}
use Rattle.code_model.specs.declared.object.Object.{Object}
use Rattle.kernel_model.specs.Kernel.{Kernel}
use Rattle.place_model.specs.declared.places.DomainRow.{DomainRow}
use Rattle.place_model.specs.Placing.{domain_at}
use Rattle.load_model.specs.Domains.{Domain}
use Rattle.load_model.specs.Loading.{Loadable}
use Rattle.node_model.specs.Systems.{domain_in}
use Rattle.node_model.specs.Nodes.{all_owned, owned, at_row, nobody}
use Rattle.node_model.specs.Code.{OwnedLaw}
use Rattle.node_laws.proofs.Stepping.{HasPlaces, places-of}

-- ---- the domain with a number

pub owned-at : (k : Kernel) (os : List Loadable) (owner : List ℕ) (n : ℕ) → n < 12
    → domain_in (all_owned k os owner) n ≡ owned k os owner n
unfolding all_owned
owned-at k os owner n l = get_or-map-range_with_len {X = Option Domain} (owned k os owner) 0 12 n n None l (omega arith)

pub all-from : (k : Kernel) (os : List Loadable) (owner : List ℕ) (ds : List (Option Domain)) → length ds ≡ 12
    → ((n : ℕ) → n < 12 → owned k os owner n ≡ domain_in ds n) → all_owned k os owner ≡ ds
unfolding all_owned
all-from k os owner ds e f =
    let size : length (all_owned k os owner) ≡ 12 = length-map-range_with_len {X = Option Domain} (owned k os owner) 0 12 in
    ext_get_or None (all_owned k os owner) ds (size ∙ sym e)
    (λ n l. (let few : n < 12 = omega (arith, l, size) in owned-at k os owner n few ∙ f n few))

-- ---- the object at the places of a row

made-of : Object → (units : List ℕ) → (code_lo lo hi : ℕ) → Domain
made-of o u c l h = record { object = o; units = u; code_lo = c; lo = l; hi = h }

pub at-row : (k : Kernel) (n : ℕ) (o : Loadable) (d : Domain) → d.object ≡ o.object → d.units ≡ o.units → HasPlaces (domain_at k n) d
    → at_row k n o ≡ d
unfolding made-of
at-row k n o d e f p =
    ap (λ (x : Object). made-of x o.units r.code.from r.region.from r.region.to) (sym e)
    ∙ ap (λ (x : List ℕ). made-of d.object x r.code.from r.region.from r.region.to) (sym f)
    ∙ ap (λ (x : ℕ). made-of d.object d.units x r.region.from r.region.to) p.code_from
    ∙ ap (λ (x : ℕ). made-of d.object d.units d.code_lo x r.region.to) p.from
    ∙ ap (λ (x : ℕ). made-of d.object d.units d.code_lo d.lo x) p.to
  where
    r : DomainRow
    r = domain_at k n

-- where the row has its places in another kernel too, it is the same
pub same-owned : (k j : Kernel) (n : ℕ) (b : Bool) (o : Option Loadable) (x : Option Domain)
    → ((d : Domain) → x ≡ Some d → HasPlaces (domain_at j n) d) → (if b then None else option_map (at_row k n) o) ≡ x
    → (if b then None else option_map (at_row j n) o) ≡ x
same-owned k j n true o x f e = e
same-owned k j n false None x f e = e
same-owned k j n false (Some l) x f e =
    ap (λ (d : Domain). (let y : Option Domain = Some d in y)) (at-row j n l (at_row k n l) refl refl (f (at_row k n l) (sym e))) ∙ e

pub owned-stays : OwnedLaw
owned-stays k j os owner ds dk dj e = all-from j os owner ds dk.twelve (λ n l. same-owned k j n
    (eqb (slice_index_or owner n nobody) nobody) (slice_get os (slice_index_or owner n nobody)) (domain_in ds n)
    (λ d x. places-of j n d (dj.placed n d x))
    (sym (owned-at k os owner n l) ∙ ap (λ (xs : List (Option Domain)). domain_in xs n) e))

-- The domains are those of the objects, with one placed more.
use Rattle.std.proofs.Common.{◌≡◌, ◌≢◌, ℕ, ◌<◌, eqb, List, set, refl, sym, ap, ◌∙◌, subst, inl, inr, arith, Option, None, Some}
use Rattle.std.specs.Prelude.{if◌then◌else◌, ◌==◌, slice_index_or, slice_get}
use Rattle.std.specs.Option.{option_map}
use Rattle.std.proofs.lemmas.Bool.{cases_eq, cond-false, ne_eqb}
use Rattle.std.proofs.lemmas.List.{get_or-set_same, get_or-set_other}
use Rattle.kernel_model.specs.Kernel.{Kernel}
use Rattle.load_model.specs.Domains.{Domain}
use Rattle.load_model.specs.Loading.{Loadable, domain_of, loaded_kernel}
use Rattle.node_model.specs.Systems.{domain_in}
use Rattle.node_model.specs.Booting.{loaded_at}
use Rattle.node_model.specs.Laws.{IsLoading}
use Rattle.node_model.specs.Nodes.{owned, at_row, nobody}
use Rattle.node_model.specs.BootCode.{LoadedOwnedLaw}
use Rattle.node_laws.proofs.Filling.{placed-at}
use Rattle.node_laws.proofs.FillingRows.{domain-put, domain-old}
use Rattle.node_laws.proofs.Loading.{ImageLaws, below-twelve, loaded-loading}
use Rattle.node_laws.proofs.Owning.{owned-at, all-from, at-row, same-owned}
use Rattle.node_laws.proofs.Stepping.{places-of}

-- by the number of the object
abbrev by-number : Kernel → List Loadable → (number dom : ℕ) → Option Domain
by-number k os i n = if i == nobody then None else option_map (at_row k n) (slice_get os i)

pub loaded-owned : ImageLaws → LoadedOwnedLaw
loaded-owned laws os s n o r h a twelve old found few e = all-from j os owner ds loads.domains.twelve each
  where
    j : Kernel
    j = loaded_kernel o.object.kind s.kernel o.object r

    d : Domain
    d = domain_of o r

    ds : List (Option Domain)
    ds = set s.placed r.dom (Some (domain_of o r))

    owner : List ℕ
    owner = set s.owner r.dom n

    loads : IsLoading (loaded_at s n o r)
    loads = loaded-loading laws s n o r h a e

    below : r.dom < 12
    below = below-twelve o.object.kind r (placed-at s.kernel o r h.settled e).pools

    put : domain_in ds r.dom ≡ Some d
    put = domain-put s.placed r.dom r.dom d (omega (arith, below, h.domains.twelve)) refl

    new : owned j os owner r.dom ≡ domain_in ds r.dom
    new =
        ap (λ (i : ℕ). by-number j os i r.dom) (get_or-set_same s.owner r.dom n nobody (omega (arith, below, twelve)))
        ∙ cond-false (eqb n nobody) None (option_map (at_row j r.dom) (slice_get os n)) (ne_eqb n nobody (λ q. omega arith))
        ∙ ap (option_map (at_row j r.dom)) found
        ∙ ap (λ (x : Domain). (let y : Option Domain = Some x in y))
        (at-row j r.dom o d refl refl (places-of j r.dom d (loads.domains.placed r.dom d put)))
        ∙ sym put

    kept : (i : ℕ) → i < 12 → i ≢ r.dom → owned j os owner i ≡ domain_in ds i
    kept i l ne =
        ap (λ (x : ℕ). by-number j os x i) (get_or-set_other s.owner r.dom i n nobody ne)
        ∙ same-owned s.kernel j i (eqb (slice_index_or s.owner i nobody) nobody) (slice_get os (slice_index_or s.owner i nobody))
        (domain_in s.placed i)
        (λ x f. places-of j i x (loads.domains.placed i x (domain-old s.placed r.dom i d ne ∙ f)))
        (sym (owned-at s.kernel os s.owner i l) ∙ ap (λ (xs : List (Option Domain)). domain_in xs i) old)
        ∙ sym (domain-old s.placed r.dom i d ne)

    each : (i : ℕ) → i < 12 → owned j os owner i ≡ domain_in ds i
    each i l = elim (cases_eq i r.dom) [
      | inl q ↦ subst (λ (x : ℕ). owned j os owner x ≡ domain_in ds x) (sym q) new
      | inr ne ↦ kept i l ne
    ]

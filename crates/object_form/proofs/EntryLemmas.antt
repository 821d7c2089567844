-- One more relocation or export of those that begin at a place.
use Rattle.std.proofs.Common.{◌≡◌, ℕ, ◌+◌, ◌*◌, ◌<◌, List, [], ◌∷◌, ◌++◌, None, refl, sym, ap, subst, ◌∙◌}
use Rattle.code_model.specs.declared.parts.Reloc.{Reloc}
use Rattle.code_model.specs.declared.parts.Export.{Export}
use Rattle.object_form.specs.declared.fault.FormFault.{FormFault}
use Rattle.object_form.specs.Reading.{listed, reloc_at, export_at, relocs_from, exports_from}
use Rattle.object_form.specs.Faults.{field_fault, first_fault, Names, key_at, least_key, least_number, reloc_field, reloc_fields, export_field, export_fields}
use Rattle.object_form.proofs.FaultLemmas.{listed-next, none-next, names-at, least_key-next, least_number-next}

-- the relocations before number k have no fault, these are they, and this is the least key
pub record RelocsSoFar (t : List ℕ) (start k : ℕ) (relocs : List Reloc) (least : ℕ) : Type 0 where
  pub none : first_fault t (reloc_fields t start k) ≡ None
  pub read : relocs ≡ relocs_from t start k
  pub least_is : least ≡ least_key t start k

pub relocs-begin : (t : List ℕ) (start : ℕ) (relocs : List Reloc) → relocs ≡ [] → RelocsSoFar t start 0 relocs 0
unfolding first_fault listed least_key
relocs-begin t start relocs empty = record { none = refl; read = empty; least_is = refl }

pub relocs-go-on : (t : List ℕ) (start k : ℕ) (relocs after : List Reloc) (least key : ℕ) (r : Reloc) → RelocsSoFar t start k relocs least
    → field_fault t (reloc_field t (start + 4 * k) least) ≡ None → r ≡ reloc_at t (start + 4 * k) → key ≡ key_at t (start + 4 * k) → after ≡ relocs ++ r ∷ [] → RelocsSoFar t start (k + 1) after (key + 1)
relocs-go-on t start k relocs after least key r before here r-is key-is pushed = record {
  none = none-next t k (λ j. reloc_field t (start + 4 * j) (least_key t start j)) before.none (subst (λ (n : ℕ). field_fault t (reloc_field t (start + 4 * k) n) ≡ None) before.least_is here);
  read = pushed ∙ ap (λ (l : List Reloc). l ++ r ∷ []) before.read ∙ ap (λ (x : Reloc). relocs_from t start k ++ x ∷ []) r-is ∙ sym (listed-next k (λ j. reloc_at t (start + 4 * j)));
  least_is = ap (λ (n : ℕ). n + 1) key-is ∙ sym (least_key-next t start k);
}

pub relocs-stop : (t : List ℕ) (start count k : ℕ) (relocs : List Reloc) (least : ℕ) (e : FormFault) → k < count → RelocsSoFar t start k relocs least
    → Names e (field_fault t (reloc_field t (start + 4 * k) least)) → Names e (first_fault t (reloc_fields t start count))
relocs-stop t start count k relocs least e lt before named =
    names-at t count k (λ j. reloc_field t (start + 4 * j) (least_key t start j)) e lt before.none (subst (λ (n : ℕ). Names e (field_fault t (reloc_field t (start + 4 * k) n))) before.least_is named)

-- the same of exports
pub record ExportsSoFar (t : List ℕ) (start k : ℕ) (exports : List Export) (least : ℕ) : Type 0 where
  pub none : first_fault t (export_fields t start k) ≡ None
  pub read : exports ≡ exports_from t start k
  pub least_is : least ≡ least_number t start k

pub exports-begin : (t : List ℕ) (start : ℕ) (exports : List Export) → exports ≡ [] → ExportsSoFar t start 0 exports 0
unfolding first_fault listed least_number
exports-begin t start exports empty = record { none = refl; read = empty; least_is = refl }

pub exports-go-on : (t : List ℕ) (start k : ℕ) (exports after : List Export) (least : ℕ) (e : Export) → ExportsSoFar t start k exports least
    → field_fault t (export_field t (start + 4 * k) least) ≡ None → e ≡ export_at t (start + 4 * k) → after ≡ exports ++ e ∷ [] → ExportsSoFar t start (k + 1) after (e.number + 1)
exports-go-on t start k exports after least e before here e-is pushed = record {
  none = none-next t k (λ j. export_field t (start + 4 * j) (least_number t start j)) before.none (subst (λ (n : ℕ). field_fault t (export_field t (start + 4 * k) n) ≡ None) before.least_is here);
  read = pushed ∙ ap (λ (l : List Export). l ++ e ∷ []) before.read ∙ ap (λ (x : Export). exports_from t start k ++ x ∷ []) e-is ∙ sym (listed-next k (λ j. export_at t (start + 4 * j)));
  least_is = ap (λ (x : Export). x.number + 1) e-is ∙ sym (least_number-next t start k);
}

pub exports-stop : (t : List ℕ) (start count k : ℕ) (exports : List Export) (least : ℕ) (e : FormFault) → k < count → ExportsSoFar t start k exports least
    → Names e (field_fault t (export_field t (start + 4 * k) least)) → Names e (first_fault t (export_fields t start count))
exports-stop t start count k exports least e lt before named =
    names-at t count k (λ j. export_field t (start + 4 * j) (least_number t start j)) e lt before.none (subst (λ (n : ℕ). Names e (field_fault t (export_field t (start + 4 * k) n))) before.least_is named)

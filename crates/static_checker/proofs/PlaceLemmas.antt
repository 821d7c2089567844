-- Marking unit starts, the entry and exports.
use Rattle.std.proofs.Common.{◌≡◌, ◌≢◌, ◌↔◌, ℕ, ◌+◌, ◌/◌, ◌%◌, ◌≤◌, ◌<◌, List, ◌⊎◌, inl, inr, length, slice_get, slice_index_or, Some, None, arith, sym, subst, ap, ◌∙◌}
use Rattle.std.proofs.Math.Nat.{eq-or-lt_of_le}
use Rattle.std.proofs.lemmas.Bool.{cases_order}
use Rattle.std.proofs.lemmas.Option.{slice_get-get_or, slice_get_within, get_or_from_slice_get}
use Rattle.code_model.specs.declared.object.Object.{Object}
use Rattle.code_model.specs.declared.parts.Export.{Export}
use Rattle.kernel_model.specs.Bitmap.{Has}
use Rattle.code_model.specs.Form.{IsInCode}
use Rattle.code_model.specs.Rules.{IsExported, IsNamed}
use Rattle.static_checker.specs.Marked.{Adds}
use Rattle.static_checker.specs.Places.{ExportsAt, ExportedBelow, IsEntry, AreNamed}
use Rattle.static_checker.proofs.MarkLemmas.{adds_same, adds_none}

-- ---- one more mark

pub adds_one : (old new : List ℕ) (at : ℕ) → Has new at → ((k : ℕ) → k ≢ at → Has new k ↔ Has old k) → Adds old new (λ k. k ≡ at)
adds_one old new at marked others k = (go, back)
  where
    go : Has new k → Has old k ⊎ (k ≡ at)
    go h = elim (cases_order k at) [
      | inl same ↦ inr same
      | inr other ↦ let differs : k ≢ at = elim other [ inl less ↦ omega arith | inr more ↦ omega arith ] in inl ((others k differs).0 h)
    ]

    back : Has old k ⊎ (k ≡ at) → Has new k
    back (inr same) = subst (λ (n : ℕ). Has new n) (sym same) marked
    back (inl was) = elim (cases_order k at) [
      | inl same ↦ subst (λ (n : ℕ). Has new n) (sym same) marked
      | inr other ↦ let differs : k ≢ at = elim other [ inl less ↦ omega arith | inr more ↦ omega arith ] in (others k differs).1 was
    ]

-- ---- exports

export_even : (code : List ℕ) (exports : List Export) (index : ℕ) (e : Export) → ((k : ℕ) (d : Export) → k < length exports → IsInCode code (slice_index_or exports k d).offset)
    → slice_get exports index ≡ Some e → e.offset % 2 ≡ 0
export_even code exports index e fit is =
    let here : slice_index_or exports index e ≡ e = get_or_from_slice_get exports index e e is in
    subst (λ (x : Export). x.offset % 2 ≡ 0) here (fit index e (slice_get_within exports index e is)).even

pub export_marked : (code : List ℕ) (exports : List Export) (old new : List ℕ) (index at : ℕ) (e : Export)
    → ((k : ℕ) (d : Export) → k < length exports → IsInCode code (slice_index_or exports k d).offset) → slice_get exports index ≡ Some e → at ≡ e.offset / 2
    → Has new at → ((k : ℕ) → k ≢ at → Has new k ↔ Has old k) → Adds old new (λ k. ExportsAt exports index k)
unfolding ExportsAt
export_marked code exports old new index at e fit is half marked others =
    let even : e.offset % 2 ≡ 0 = export_even code exports index e fit is in
    adds_same old new (λ k. k ≡ at) (λ k. ExportsAt exports index k)
    (λ k. (
      (λ same. (e, slice_get_within exports index e is, get_or_from_slice_get exports index e e is, omega arith)),
      (λ (f, inside, here, offset). let same : e ≡ f = sym (get_or_from_slice_get exports index e f is) ∙ here in
          let same_offset : e.offset ≡ f.offset = ap (λ (x : Export). x.offset) same in omega arith),
    ))
    (adds_one old new at marked others)

pub export_none : (exports : List Export) (m : List ℕ) (index : ℕ) → slice_get exports index ≡ None → Adds m m (λ k. ExportsAt exports index k)
unfolding ExportsAt
export_none exports m index none =
    adds_none m (λ k. ExportsAt exports index k) (λ k (e, inside, here, offset).
    let is : slice_get exports index ≡ Some (slice_index_or exports index e) = slice_get-get_or exports index e inside in cc)

pub named_begins : (o : Object) (old new : List ℕ) → ((k : ℕ) → Has old k → ⊥) → Adds old new (λ k. IsEntry o k)
    → (k : ℕ) → Has new k ↔ (IsEntry o k ⊎ ExportedBelow o.exports k 0)
unfolding ExportedBelow
named_begins o old new none adds k = (go, back)
  where
    go : Has new k → IsEntry o k ⊎ ((index : ℕ) × (index < 0) × ExportsAt o.exports index k)
    go h = elim ((adds k).0 h) [ inl was ↦ absurd (none k was) | inr entry ↦ inl entry ]

    back : IsEntry o k ⊎ ((index : ℕ) × (index < 0) × ExportsAt o.exports index k) → Has new k
    back (inl entry) = (adds k).1 (inr entry)
    back (inr (index, less, x)) = absurd (omega arith)

pub named_next : (o : Object) (old new : List ℕ) (index : ℕ) → ((k : ℕ) → Has old k ↔ (IsEntry o k ⊎ ExportedBelow o.exports k index))
    → Adds old new (λ k. ExportsAt o.exports index k) → (k : ℕ) → Has new k ↔ (IsEntry o k ⊎ ExportedBelow o.exports k (index + 1))
unfolding ExportedBelow
named_next o old new index was adds k = (go, back)
  where
    go : Has new k → IsEntry o k ⊎ ((i : ℕ) × (i < index + 1) × ExportsAt o.exports i k)
    go h = elim ((adds k).0 h) [
      | inl before ↦ elim ((was k).0 before) [ inl entry ↦ inl entry | inr x ↦ inr (x.0, omega (arith, x.1), x.2) ]
      | inr added ↦ inr (index, omega arith, added)
    ]

    back : IsEntry o k ⊎ ((i : ℕ) × (i < index + 1) × ExportsAt o.exports i k) → Has new k
    back (inl entry) = (adds k).1 (inl ((was k).1 (inl entry)))
    back (inr (i, less, x)) = let most : i ≤ index = omega arith in
        elim (eq-or-lt_of_le most) [
          | inl same ↦ (adds k).1 (inr (subst (λ (n : ℕ). ExportsAt o.exports n k) same x))
          | inr before ↦ (adds k).1 (inl ((was k).1 (inr (i, before, x))))
        ]

exported : (exports : List Export) (k end : ℕ) → length exports ≤ end → ExportedBelow exports k end ↔ IsExported exports k
unfolding ExportedBelow ExportsAt IsExported
exported exports k end past = ((λ (i, less, (e, inside, here, offset)). (e, (i, inside, here), offset)), (λ (e, (i, inside, here), offset). (i, omega arith, (e, inside, here, offset))))

pub named_end : (o : Object) (m : List ℕ) (end : ℕ) → length o.exports ≤ end → ((k : ℕ) → Has m k ↔ (IsEntry o k ⊎ ExportedBelow o.exports k end)) → AreNamed o m
named_end o m end past was k = (go, back)
  where
    go : Has m k → IsNamed o k
    go h = elim ((was k).0 h) [ inl entry ↦ inl entry | inr x ↦ inr ((exported o.exports k end past).0 x) ]

    back : IsNamed o k → Has m k
    back (inl entry) = (was k).1 (inl entry)
    back (inr x) = (was k).1 (inr ((exported o.exports k end past).1 x))

-- New places.
use Rattle.std.proofs.Common.{◌≡◌, ℕ, ◌+◌, ◌*◌, ◌/◌, ◌≤◌, ◌<◌, min, List, [], ◌∷◌, ◌++◌, inl, inr, length, slice_index, sym, subst, ap, ◌∙◌, arith}
use Rattle.std.proofs.lemmas.Bool.{cases_lt}
use Rattle.std.proofs.lemmas.List.{length-append}
use Rattle.code_model.specs.declared.object.TheConstants.{CODE_WORDS_MAX}
use Rattle.code_model.specs.declared.object.Object.{Object}
use Rattle.code_model.specs.Fields.{Fields, fields}
use Rattle.insert_model.specs.Words.{unit_words}
use Rattle.insert_model.specs.Units.{static_bytes}
use Rattle.insert_model.specs.Groups.{Group, groups}
use Rattle.insert_model.specs.Layout.{Jumps, unit_in, units, before, words_before, sized, place_map}
use Rattle.insert_model.specs.Faults.{most_words}
use Rattle.check_inserter.specs.declared.laying.Laid.{Laid}
use Rattle.check_inserter.specs.Places.{ArePlaces, IsLaid}
use Rattle.check_inserter.proofs.LaidUnits.{units_append, units_one, before_in, before_out}

-- one group's unit and those behind
pub units_cons : (js : Jumps) (size : ℕ) (g : Group) (gs : List Group) → length (units js size (g ∷ gs)) ≡ length (unit_words (unit_in js size g)) + length (units js size gs)
units_cons js size g gs =
    let e : units js size (g ∷ gs) ≡ units js size (g ∷ []) ++ units js size gs = units_append js size (g ∷ []) gs in
    omega (arith, ap length e, length-append (units js size (g ∷ [])) (units js size gs), ap length (units_one js size g))

pub units_before : (js : Jumps) (size k : ℕ) (gs : List Group) → length (units js size (before k gs)) ≤ length (units js size gs)
unfolding before
units_before js size k [] = omega arith
units_before js size k (g ∷ gs) =
    let less : length (units js size (before k gs)) ≤ length (units js size gs) = units_before js size k gs in
    elim (cases_lt g.head.at k) [
      | inl early ↦ omega (arith, ap (λ (hs : List Group). length (units js size hs)) (before_in k g gs early), units_cons js size g (before k gs), units_cons js size g gs)
      | inr late ↦ omega (arith, ap (λ (hs : List Group). length (units js size hs)) (before_out k g gs late), units_cons js size g gs)
    ]

-- what lies behind the last place has gone behind the last unit
at_last : (js : Jumps) (f : Fields) (places : List ℕ) → ArePlaces js f places → (k : ℕ) → slice_index places (min k (length f.code)) ≡ length (units js (static_bytes f) (before k (groups f)))
at_last js f places are k = elim (cases_lt k (length f.code)) [
  | inl inside ↦ let e : min k (length f.code) ≡ k = omega arith in
      subst (λ (x : ℕ). slice_index places x ≡ length (units js (static_bytes f) (before k (groups f)))) (sym e) (are.each k (omega arith))
  | inr past ↦
      let e : min k (length f.code) ≡ length f.code = omega arith in
      let same : before (length f.code) (groups f) ≡ before k (groups f) = are.past (length f.code) (omega arith) ∙ sym (are.past k past) in
      subst (λ (x : ℕ). slice_index places x ≡ length (units js (static_bytes f) (before k (groups f)))) (sym e)
      (are.each (length f.code) (omega arith) ∙ ap (λ (gs : List Group). length (units js (static_bytes f) gs)) same)
]

pub value_before : (js : Jumps) (f : Fields) (places : List ℕ) (x k : ℕ) → ArePlaces js f places → k ≡ min (x / 2) (length f.code) → slice_index places k ≡ words_before js f x
unfolding words_before
value_before js f places x k are e = ap (slice_index places) e ∙ at_last js f places are (x / 2)

-- the place of a line
pub value_at : (js : Jumps) (f : Fields) (places : List ℕ) (at : ℕ) → ArePlaces js f places → at < length f.code → slice_index places at ≡ words_before js f (2 * at)
value_at js f places at are h = value_before js f places (2 * at) at are (omega arith)

-- all of a layout's words
pub all_words : (js : Jumps) (f : Fields) (places : List ℕ) → ArePlaces js f places → slice_index places (length f.code) ≡ length (units js (static_bytes f) (groups f))
all_words js f places are = are.each (length f.code) (omega arith) ∙ ap (λ (gs : List Group). length (units js (static_bytes f) gs)) (are.past (length f.code) (omega arith))

pub before_small : (o : Object) (laid : Laid) (x y : ℕ) → IsLaid o laid → y ≡ words_before (sized (fields o)) (fields o) x → y ≤ CODE_WORDS_MAX
unfolding most_words words_before
before_small o laid x y is e =
    omega (arith, e, units_before (sized (fields o)) (static_bytes (fields o)) (x / 2) (groups (fields o)), is.fits, is.final.size)

pub map_is : (o : Object) (x y : ℕ) → y ≡ words_before (sized (fields o)) (fields o) x → 2 * y ≡ place_map (fields o) x
unfolding place_map
map_is o x y e = ap (λ (n : ℕ). 2 * n) e

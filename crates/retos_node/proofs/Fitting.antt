-- A list of accepted objects: with one more, and the one at a place.
use Rattle.std.proofs.Common.{◌≡◌, ℕ, zero, suc, ◌<◌, ◌≤◌, List, [], ◌∷◌, ◌++◌, length, map, get_or, Some, ap, ◌∙◌, refl, subst, arith, length-append}
use Rattle.std.proofs.lemmas.List.{length-map}
use Rattle.std.specs.List.{slice_get}
use Rattle.std.specs.Option.{option_map}
use Rattle.std.proofs.lemmas.Option.{slice_get-map, slice_get_read}
use Rattle.code_model.specs.Verdicts.{IsAccepted}
use Rattle.load_model.specs.Loading.{Loadable}
use Rattle.node_model.specs.Nodes.{IsFitting}
use Rattle.retos_node.specs.declared.objects.Accepted.{Accepted}

abbrev pub loadable : Accepted → Loadable
loadable item = record { object = item.object; units = item.marks }

abbrev pub IsList : List Accepted → Type 0
IsList xs = (length xs ≤ 16) × IsFitting (map loadable xs)

fitting_push : (xs : List Accepted) (x : Accepted) → IsFitting (map loadable xs) → IsAccepted x.object x.marks
    → IsFitting (map loadable (xs ++ x ∷ []))
fitting_push [] x h a zero o e =
    let same : loadable x ≡ o = cc in subst (λ (l : Loadable). IsAccepted l.object l.units) same a
fitting_push [] x h a (suc i) o e = absurd (cc)
fitting_push (y ∷ ys) x h a zero o e = h zero o e
fitting_push (y ∷ ys) x h a (suc i) o e = fitting_push ys x (λ k. h (suc k)) a i o e

pub list_push : (xs : List Accepted) (view : List Loadable) (x : Accepted) → IsList xs → view ≡ map loadable xs → length view ≤ 15
    → IsAccepted x.object x.marks → IsList (xs ++ x ∷ [])
list_push xs view x h e room a = (
  omega (arith, length-append xs (x ∷ []), ap length e, length-map xs loadable),
  fitting_push xs x h.1 a,
)

pub found : (xs : List Accepted) (view : List Loadable) (i : ℕ) (x : Accepted) → view ≡ map loadable xs → suc i ≤ length view
    → x ≡ get_or xs i x → slice_get view i ≡ Some (loadable x)
found xs view i x e within is =
    let below : i < length xs = omega (arith, ap length e, length-map xs loadable) in
    ap (λ (v : List Loadable). slice_get v i) e ∙ slice_get-map loadable xs i
    ∙ ap (λ o. option_map loadable o) (slice_get_read xs (length xs) i x refl below is)

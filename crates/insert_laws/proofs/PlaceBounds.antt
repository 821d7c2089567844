-- The place map sends no offset behind the code.
use Rattle.std.proofs.Common.{◌≡◌, ℕ, ◌/◌, ◌≤◌, nat_lt, true, false, List, [], ◌∷◌, inl, inr, length, sym, ap, ◌∙◌, arith, rules}
use Rattle.std.proofs.lemmas.Bool.{cases_lt}
use Rattle.std.proofs.lemmas.List.{length-append, length-map}
use Rattle.code_model.specs.Fields.{Fields, fields}
use Rattle.insert_model.specs.Words.{unit_words}
use Rattle.insert_model.specs.Units.{static_bytes}
use Rattle.insert_model.specs.Groups.{Group, groups}
use Rattle.insert_model.specs.Layout.{Jumps, unit_in, units, before, words_before, sized, place_map}
use Rattle.insert_model.specs.Inserted.{moved}
use Rattle.insert_model.specs.Laws.{SizedLaw}
use Rattle.insert_laws.specs.Pieces.{pieces}
use Rattle.insert_laws.specs.Lines.{CodeIsPieces, PlacesWithin}
use Rattle.insert_laws.proofs.Standing.{units_words}

-- the units of some of the groups are no more words than those of all
fewer : (js : Jumps) (size at : ℕ) (gs : List Group) → length (units js size (before at gs)) ≤ length (units js size gs)
unfolding units before
fewer js size at [] = omega arith
fewer js size at (g ∷ gs) = elim (cases_lt g.head.at at) [
  | inl less ↦
      let e : nat_lt g.head.at at ≡ true = search rules in
      rw e (omega (arith, fewer js size at gs, length-append (unit_words (unit_in js size g)) (units js size (before at gs)), length-append (unit_words (unit_in js size g)) (units js size gs)))
  | inr more ↦ let e : nat_lt g.head.at at ≡ false = search rules in rw e (omega (arith, fewer js size at gs, length-append (unit_words (unit_in js size g)) (units js size gs)))
]

all_words : SizedLaw → (f : Fields) → length (units (sized f) (static_bytes f) (groups f)) ≡ length (unit_words (pieces f))
unfolding pieces
all_words sizes f = sym (sizes f (groups f)) ∙ ap length (units_words f (groups f))

pub within : CodeIsPieces → SizedLaw → PlacesWithin
unfolding place_map words_before
within code sizes o q i x =
    let all : length q.code ≡ length (unit_words (pieces (fields o))) = ap length (code o q i) ∙ length-map (unit_words (pieces (fields o))) (moved (place_map (fields o))) in
    record { below = omega (arith, fewer (sized (fields o)) (static_bytes (fields o)) (x / 2) (groups (fields o)), all_words sizes (fields o), all); even = omega arith }

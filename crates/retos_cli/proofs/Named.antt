-- The word at a place.
use Rattle.std.proofs.Common.{◌≡◌, ℕ, List, [], Option, Some, sym, ap}
use Rattle.std.specs.Prelude.{slice_get, unwrap_or}
use Rattle.retos_cli.specs.Words.{word}

pub the_word : (words : List (List ℕ)) (at : ℕ) (w : List ℕ) → slice_get words at ≡ Some w → w ≡ word words at
the_word words at w e = sym (ap (λ (o : Option (List ℕ)). unwrap_or o []) e)

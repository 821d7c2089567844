-- The parts of a text between commas.
use Rattle.std.specs.Prelude.{ℕ, List, map}
use Rattle.std.specs.List.{slice_split}
use Rattle.asm_model.specs.Words.{is_comma, trimmed}

abbrev pub parts_of : List ℕ → List (List ℕ)
parts_of rest = map trimmed (slice_split is_comma rest)

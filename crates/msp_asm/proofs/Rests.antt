-- What is left of a text that is cut part by part, or line by line.
use Rattle.std.proofs.Common.{ℕ, ◌+◌, List, [], length, map, Option, Some, None, Bor}
use Rattle.std.specs.List.{slice_split}
use Rattle.asm_model.specs.Lines.{lines_of}
use Rattle.asm_model.specs.Words.{is_comma, trimmed}

-- the parts of what is left
abbrev pub parts_left : Option (Bor (List ℕ)) → List (List ℕ)
parts_left None = []
parts_left (Some text) = map trimmed (slice_split is_comma text.now)

-- the lines of what is left
abbrev pub lines_left : Option (Bor (List ℕ)) → List (List ℕ)
lines_left None = []
lines_left (Some text) = lines_of text.now

-- more than the length of what is left
abbrev pub size_left : Option (Bor (List ℕ)) → ℕ
size_left None = 0
size_left (Some text) = length text.now + 1

use Rattle.std.proofs.Common.{◌≡◌, ◌∷◌, map, take}
use Rattle.insert_model.specs.declared.line.Line.{Line}
use Rattle.insert_model.specs.Groups.{cell, greatest}
use Rattle.insert_model.specs.Layout.{difference_of}
use Rattle.check_inserter.specs.Cells.{as_cell}
use Rattle.check_inserter.proofs.group_units.greatest.Given as goal

abbrev pub invariant-loop-other : goal.invariant-loop-other
invariant-loop-other l = l.greatest ≡ greatest (map (λ (m : Line). difference_of (as_cell l.from) (cell m)) (l.line ∷ take l.other-index l.rest))

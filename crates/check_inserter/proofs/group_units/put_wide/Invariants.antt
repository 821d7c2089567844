use Rattle.std.proofs.Common.{◌≡◌, ◌++◌, map, take}
use Rattle.insert_model.specs.Words.{unit_words}
use Rattle.insert_model.specs.Layout.{beside}
use Rattle.check_inserter.specs.Cells.{as_cell}
use Rattle.check_inserter.proofs.group_units.put_wide.Given as goal

abbrev pub invariant-loop-other : goal.invariant-loop-other
invariant-loop-other l = l.out.items ≡ l.initial.out.items ++ unit_words (map (beside (as_cell l.cell)) (take l.other-index l.rest))

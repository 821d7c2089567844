-- Cells and runs as the code has them.
use Rattle.std.specs.Prelude.{◌≡◌, ℕ, List, length}
use Rattle.insert_model.specs.Groups.{Cell, greatest}
use Rattle.check_inserter.specs.declared.cells.Cell as code
use Rattle.check_inserter.specs.declared.groups.Run.{Run}

-- the cell that is meant
abbrev pub as_cell : code.Cell → Cell
as_cell c = record { base = c.base; index = c.index; kind = c.kind }

-- how many differences there are, and the greatest of them
pub record Counts (ds : List ℕ) (r : Run) : Type 0 where
  pub count_is : r.count ≡ length ds
  pub greatest_is : r.greatest ≡ greatest ds

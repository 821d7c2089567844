use Rattle.std.proofs.Common.{◌≡◌, ◌≤◌, length, take}
use Rattle.place_model.specs.Placing.{ranges}
use Rattle.region_table.proofs.placing.ranges.Given as goal

abbrev pub invariant-loop-row : goal.invariant-loop-row
invariant-loop-row l = record { items : l.ranges.items ≡ ranges l.pool (take l.row-index l.rows); size : length l.ranges.items ≤ l.row-index }

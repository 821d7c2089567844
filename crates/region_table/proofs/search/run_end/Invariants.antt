use Rattle.std.proofs.Common.{◌≡◌, take}
use Rattle.place_model.specs.Gaps.{run_end}
use Rattle.region_table.proofs.search.run_end.Given as goal

abbrev pub invariant-loop-r : goal.invariant-loop-r
invariant-loop-r l = l.end ≡ run_end l.pool (take l.r-index l.ranges) l.at

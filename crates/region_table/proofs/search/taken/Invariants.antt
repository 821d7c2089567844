use Rattle.std.proofs.Common.{◌≡◌, false, take}
use Rattle.place_model.specs.Gaps.{taken}
use Rattle.region_table.proofs.search.taken.Given as goal

abbrev pub invariant-loop-r : goal.invariant-loop-r
invariant-loop-r l = taken (take l.r-index l.ranges) l.at ≡ false

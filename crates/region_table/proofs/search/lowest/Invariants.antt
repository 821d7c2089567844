use Rattle.std.proofs.Common.{◌≡◌, take}
use Rattle.place_model.specs.Gaps.{lowest}
use Rattle.region_table.proofs.search.lowest.Given as goal

abbrev pub invariant-loop-gap : goal.invariant-loop-gap
invariant-loop-gap l = l.first ≡ lowest l.end l.need (take l.gap-index l.gaps)

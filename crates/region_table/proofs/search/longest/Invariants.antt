use Rattle.std.proofs.Common.{◌≡◌, take}
use Rattle.place_model.specs.Gaps.{longest}
use Rattle.region_table.proofs.search.longest.Given as goal

abbrev pub invariant-loop-gap : goal.invariant-loop-gap
invariant-loop-gap l = l.most ≡ longest (take l.gap-index l.gaps)

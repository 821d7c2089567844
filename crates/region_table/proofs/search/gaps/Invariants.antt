use Rattle.std.proofs.Common.{◌≡◌, ◌+◌, ◌≤◌, ◌∷◌, length, take}
use Rattle.region_table.specs.Searching.{gaps_at, ends}
use Rattle.region_table.proofs.search.gaps.Given as goal

abbrev pub invariant-loop-r : goal.invariant-loop-r
invariant-loop-r l = record { items : l.gaps.items ≡ gaps_at l.pool l.taken (l.pool.from ∷ ends (take l.r-index l.taken)); size : length l.gaps.items ≤ l.r-index + 1 }

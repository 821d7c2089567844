use Rattle.std.proofs.Common.{◌≡◌, ℕ, ◌<◌, ◌≤◌, false}
use Rattle.place_model.specs.Placing.{is_free, row_of}
use Rattle.region_table.proofs.placing.free_from.Given as goal

abbrev pub invariant-loop-number : goal.invariant-loop-number
invariant-loop-number l = (k : ℕ) → l.first ≤ k → k < l.number → is_free (row_of l.rows k) ≡ false

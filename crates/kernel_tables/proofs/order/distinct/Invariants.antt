use Rattle.std.proofs.Common.{ℕ, ◌<◌, get_or}
use Rattle.kernel_tables.specs.Lists.{IsNewAt}
use Rattle.kernel_tables.proofs.order.distinct.Given as goal

abbrev pub invariant-loop-i : goal.invariant-loop-i
invariant-loop-i l = (k : ℕ) → k < l.i → IsNewAt l.list (get_or l.list k 0) k

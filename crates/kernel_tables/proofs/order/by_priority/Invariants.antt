use Rattle.std.proofs.Common.{ℕ, ◌+◌, ◌<◌, ◌≤◌, get_or}
use Rattle.kernel_model.specs.Layout.{kernel_of}
use Rattle.kernel_model.specs.Words.{priority_of}
use Rattle.kernel_tables.proofs.order.by_priority.Given as goal

abbrev pub invariant-loop-i : goal.invariant-loop-i
invariant-loop-i l = (k : ℕ) → k + 1 < l.i → priority_of (kernel_of l.m) (get_or l.list (k + 1) 0) ≤ priority_of (kernel_of l.m) (get_or l.list k 0)

use Rattle.std.proofs.Common.{ℕ, ◌+◌, ◌<◌, ◌≤◌, get_or}
use Rattle.kernel_model.specs.Layout.{kernel_of}
use Rattle.kernel_model.specs.Words.{wake_time}
use Rattle.kernel_tables.proofs.order.by_wake_time.Given as goal

abbrev pub invariant-loop-i : goal.invariant-loop-i
invariant-loop-i l = (k : ℕ) → k + 1 < l.i → wake_time (kernel_of l.m) (get_or l.list k 0) ≤ wake_time (kernel_of l.m) (get_or l.list (k + 1) 0)

use Rattle.std.proofs.Common.{◌≡◌, ℕ, ◌<◌, true, leb, get_or}
use Rattle.kernel_model.specs.Layout.{kernel_of}
use Rattle.kernel_model.specs.Words.{wake_time}
use Rattle.kernel_tables.proofs.queues.first_later.Given as goal

abbrev pub invariant-loop-i : goal.invariant-loop-i
invariant-loop-i l = (k : ℕ) → k < l.i → leb (wake_time (kernel_of l.m) (get_or l.list k 0)) l.tick ≡ true

use Rattle.std.proofs.Common.{◌≢◌, ℕ, ◌<◌}
use Rattle.kernel_model.specs.Layout.{kernel_of}
use Rattle.kernel_model.specs.Words.{running, app_of, number_of, owner_of}
use Rattle.kernel_rows.proofs.calls.owns_none.Given as goal

abbrev pub invariant-loop-i : goal.invariant-loop-i
invariant-loop-i l = (k : ℕ) → k < l.i → owner_of (kernel_of l.m) (app_of (running (kernel_of l.m))) k ≢ number_of (running (kernel_of l.m))

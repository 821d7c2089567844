use Rattle.std.proofs.Common.{ℕ, ◌<◌, ◌≤◌}
use Rattle.kernel_model.specs.Kernel.{module_at}
use Rattle.kernel_model.specs.Layout.{kernel_of}
use Rattle.kernel_rows.proofs.calls.knows_modules.Given as goal

abbrev pub invariant-loop-i : goal.invariant-loop-i
invariant-loop-i l = (n : ℕ) → n < l.i → (module_at (kernel_of l.m) n).state ≤ 2

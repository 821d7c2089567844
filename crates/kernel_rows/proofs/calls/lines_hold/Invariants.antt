use Rattle.std.proofs.Common.{ℕ, ◌<◌, All}
use Rattle.kernel_model.specs.Kernel.{line_at}
use Rattle.kernel_model.specs.Layout.{kernel_of}
use Rattle.kernel_rows.proofs.calls.lines_hold.Given as goal

abbrev pub invariant-loop-n : goal.invariant-loop-n
invariant-loop-n l = (k : ℕ) → k < l.n → All (λ t. t < 32) (line_at (kernel_of l.m) k)

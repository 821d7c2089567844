use Rattle.std.proofs.Common.{◌≡◌, ℕ, ◌<◌, false}
use Rattle.kernel_model.specs.Layout.{kernel_of}
use Rattle.kernel_model.specs.Words.{identity}
use Rattle.kernel_model.specs.Starting.{is_free_thread}
use Rattle.kernel_threads.proofs.entries.free_thread.Given as goal

abbrev pub invariant-loop-n : goal.invariant-loop-n
invariant-loop-n l = (k : ℕ) → k < l.n → is_free_thread (kernel_of l.m) (identity l.a k) ≡ false

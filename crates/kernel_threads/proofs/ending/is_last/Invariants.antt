use Rattle.std.proofs.Common.{◌≡◌, ℕ, ◌<◌, true, ◌||◌, eqb}
use Rattle.kernel_model.specs.Layout.{kernel_of}
use Rattle.kernel_model.specs.Words.{app_of, identity}
use Rattle.kernel_model.specs.Starting.{is_free_thread}
use Rattle.kernel_threads.proofs.ending.is_last.Given as goal

abbrev pub invariant-loop-n : goal.invariant-loop-n
invariant-loop-n l = (k : ℕ) → k < l.n → (eqb (identity (app_of l.t) k) l.t || is_free_thread (kernel_of l.m) (identity (app_of l.t) k)) ≡ true

use Rattle.std.proofs.Common.{◌≡◌, ℕ, ◌<◌, get_or}
use Rattle.kernel_threads.specs.Contexts.{taken}
use Rattle.kernel_threads.proofs.contexts.take.Given as goal

abbrev pub invariant-loop-n : goal.invariant-loop-n
invariant-loop-n l = (k : ℕ) → k < l.n → get_or l.r k 0 ≡ get_or (taken l.words) k 0

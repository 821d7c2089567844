use Rattle.std.proofs.Common.{◌≡◌, ℕ, ◌<◌, get_or, length}
use Rattle.kernel_threads.proofs.contexts.words_of.Given as goal

abbrev pub invariant-loop-n : goal.invariant-loop-n
invariant-loop-n l = record { size : length l.words ≡ 16; read : (k : ℕ) → k < l.n → get_or l.words k 0 ≡ get_or l.r k 0 }

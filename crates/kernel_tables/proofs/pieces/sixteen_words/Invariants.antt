use Rattle.std.proofs.Common.{◌≡◌, ℕ, ◌<◌, get_or, length}
use Rattle.kernel_model.specs.Bytes.{part, words_of}
use Rattle.kernel_tables.proofs.pieces.sixteen_words.Given as goal

abbrev pub invariant-loop-i : goal.invariant-loop-i
invariant-loop-i l = record { size : length l.words ≡ 16; read : (k : ℕ) → k < l.i → get_or l.words k 0 ≡ get_or (words_of (part l.m l.at 32)) k 0 }

use Rattle.std.proofs.Common.{◌≡◌, take}
use Rattle.flat_mem.specs.Bytes.{patch}
use Rattle.kernel_model.specs.Bytes.{bytes_of}
use Rattle.kernel_tables.proofs.pieces.put_words.Given as goal

abbrev pub invariant-loop-i : goal.invariant-loop-i
invariant-loop-i l = l.m ≡ patch l.initial.m l.at (bytes_of (take l.i l.words))

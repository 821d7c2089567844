use Rattle.std.proofs.Common.{◌≡◌, length, take}
use Rattle.flat_mem.specs.Bytes.{patch}
use Rattle.flat_mem.proofs.FlatMem.copy_in.Given as goal

abbrev pub invariant-loop-i : goal.invariant-loop-i
invariant-loop-i l = (l.self ≡ patch l.initial.self l.fn.at (take l.i l.from)) × (length l.self ≡ 65536)

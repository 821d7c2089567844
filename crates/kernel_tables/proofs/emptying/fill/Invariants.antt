use Rattle.std.proofs.Common.{◌≡◌}
use Rattle.flat_mem.specs.Bytes.{patch}
use Rattle.kernel_tables.specs.Clearing.{copies}
use Rattle.kernel_tables.proofs.emptying.fill.Given as goal

abbrev pub invariant-loop-i : goal.invariant-loop-i
invariant-loop-i l = l.m ≡ patch l.initial.m l.at (copies l.i l.byte)

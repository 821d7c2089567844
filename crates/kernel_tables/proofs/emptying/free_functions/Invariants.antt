use Rattle.std.proofs.Common.{◌≡◌, [], ◌∷◌}
use Rattle.flat_mem.specs.Bytes.{patch}
use Rattle.kernel_tables.specs.Clearing.{repeated}
use Rattle.kernel_tables.proofs.emptying.free_functions.Given as goal

abbrev pub invariant-loop-i : goal.invariant-loop-i
invariant-loop-i l = l.m ≡ patch l.initial.m 800 (repeated l.i (255 ∷ 255 ∷ 0 ∷ 0 ∷ []))

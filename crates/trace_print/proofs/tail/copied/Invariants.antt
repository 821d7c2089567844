use Rattle.std.proofs.Common.{◌≡◌, take}
use Rattle.trace_print.proofs.tail.copied.Given as goal

-- the first pairs
abbrev pub invariant-loop-at : goal.invariant-loop-at
invariant-loop-at l = l.copy ≡ take l.at l.writes

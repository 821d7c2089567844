use Rattle.std.proofs.Common.{take}
use Rattle.check_inserter.specs.Named.{AreAdded, SomeJumpTo}
use Rattle.check_inserter.proofs.named.mark_jumps.Given as goal

abbrev pub invariant-loop-line : goal.invariant-loop-line
invariant-loop-line l = AreAdded l.initial.marks l.marks (SomeJumpTo (take l.line-index l.lines))

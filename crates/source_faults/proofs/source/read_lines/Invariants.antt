use Rattle.std.proofs.Common.{◌-◌, length}
use Rattle.source_faults.proofs.Reading.{IsReadTo}
use Rattle.source_faults.proofs.source.read_lines.Given as goal

abbrev pub invariant-loop-at : goal.invariant-loop-at
invariant-loop-at l = IsReadTo l.o l.lines.items l.at

abbrev pub decreases-loop-at : goal.decreases-loop-at
decreases-loop-at l = length l.o.code - l.at

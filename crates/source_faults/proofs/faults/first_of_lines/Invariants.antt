use Rattle.std.proofs.Common.{take}
use Rattle.insert_model.specs.Faults.{LinesHave}
use Rattle.source_faults.specs.Found.{IsLeast}
use Rattle.source_faults.proofs.faults.first_of_lines.Given as goal

abbrev pub invariant-loop-line : goal.invariant-loop-line
invariant-loop-line l = IsLeast (LinesHave l.o (take l.line-index l.lines)) l.first

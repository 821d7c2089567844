use Rattle.std.proofs.Common.{take}
use Rattle.check_inserter.specs.Named.{AreAdded, SomeExport}
use Rattle.check_inserter.proofs.named.mark_exports.Given as goal

abbrev pub invariant-loop-export : goal.invariant-loop-export
invariant-loop-export l = AreAdded l.initial.marks l.marks (SomeExport (take l.export-index l.exports))

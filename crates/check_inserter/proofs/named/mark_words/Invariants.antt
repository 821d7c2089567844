use Rattle.std.proofs.Common.{take}
use Rattle.code_model.specs.Fields.{fields}
use Rattle.check_inserter.specs.Named.{AreAdded, SomeRelocate}
use Rattle.check_inserter.proofs.named.mark_words.Given as goal

abbrev pub invariant-loop-reloc : goal.invariant-loop-reloc
invariant-loop-reloc l = AreAdded l.initial.marks l.marks (SomeRelocate (fields l.o) (take l.reloc-index l.o.relocs))

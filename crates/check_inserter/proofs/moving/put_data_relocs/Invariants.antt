use Rattle.std.proofs.Common.{◌≡◌, ◌++◌, take}
use Rattle.insert_model.specs.Inserted.{of_data}
use Rattle.check_inserter.proofs.moving.put_data_relocs.Given as goal

abbrev pub invariant-loop-reloc : goal.invariant-loop-reloc
invariant-loop-reloc l = l.out ≡ l.initial.out ++ of_data (take l.reloc-index l.relocs)

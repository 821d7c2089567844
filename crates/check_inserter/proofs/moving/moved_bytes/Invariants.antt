use Rattle.std.proofs.Common.{◌≡◌, take, fold}
use Rattle.code_model.specs.Fields.{fields}
use Rattle.insert_model.specs.Inserted.{moved_data}
use Rattle.insert_model.specs.Layout.{place_map}
use Rattle.check_inserter.proofs.moving.moved_bytes.Given as goal

abbrev pub invariant-loop-reloc : goal.invariant-loop-reloc
invariant-loop-reloc l = l.bytes.items ≡ fold (moved_data (place_map (fields l.o))) l.o.init (take l.reloc-index l.o.relocs)

use Rattle.std.proofs.Common.{◌≡◌, map, take}
use Rattle.code_model.specs.Fields.{fields}
use Rattle.insert_model.specs.Inserted.{moved_export}
use Rattle.insert_model.specs.Layout.{place_map}
use Rattle.check_inserter.proofs.moving.moved_exports.Given as goal

abbrev pub invariant-loop-export : goal.invariant-loop-export
invariant-loop-export l = l.exports ≡ map (moved_export (place_map (fields l.o))) (take l.export-index l.o.exports)

use Rattle.std.proofs.Common.{◌≡◌, ◌++◌, take}
use Rattle.std.specs.List.{flat_map}
use Rattle.object_form.specs.Spelling.{export_bytes}
use Rattle.object_form.proofs.writing.put_exports.Given as goal

abbrev pub invariant-loop-export : goal.invariant-loop-export
invariant-loop-export l = l.out ≡ l.fn.out ++ flat_map export_bytes (take l.export-index l.exports)

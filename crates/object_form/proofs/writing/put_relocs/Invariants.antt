use Rattle.std.proofs.Common.{◌≡◌, ◌++◌, take}
use Rattle.std.specs.List.{flat_map}
use Rattle.object_form.specs.Spelling.{reloc_bytes}
use Rattle.object_form.proofs.writing.put_relocs.Given as goal

abbrev pub invariant-loop-reloc : goal.invariant-loop-reloc
invariant-loop-reloc l = l.out ≡ l.fn.out ++ flat_map reloc_bytes (take l.reloc-index l.relocs)

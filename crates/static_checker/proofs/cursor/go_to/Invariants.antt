use Rattle.std.proofs.Common.{ℕ, ◌*◌, ◌<◌, ◌≤◌, ◌-◌, length, slice_index_or}
use Rattle.code_model.specs.declared.parts.Reloc.{Reloc}
use Rattle.code_model.specs.Form.{key}
use Rattle.static_checker.proofs.cursor.go_to.Given as goal

abbrev pub invariant-loop-reloc : goal.invariant-loop-reloc
invariant-loop-reloc l = record {
  within : l.reloc ≤ length l.o.relocs;
  below : (k : ℕ) (d : Reloc) → k < l.reloc → key (slice_index_or l.o.relocs k d) < 2 * l.at;
}

abbrev pub decreases-loop-reloc : goal.decreases-loop-reloc
decreases-loop-reloc l = length l.o.relocs - l.reloc

use Rattle.std.proofs.Common.{◌≡◌, ◌<◌, ℕ, length, fold, take, slice_index_or, None}
use Rattle.insert_model.specs.Source.{on_word}
use Rattle.source_faults.proofs.source.kinds.Given as goal

abbrev pub invariant-loop-reloc : goal.invariant-loop-reloc
invariant-loop-reloc l = record {
  size : length l.kinds.items ≡ length l.o.code;
  each : (k : ℕ) → k < length l.o.code → slice_index_or l.kinds.items k None ≡ fold (on_word k) None (take l.reloc-index l.o.relocs);
}

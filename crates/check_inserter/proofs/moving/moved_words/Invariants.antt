use Rattle.std.proofs.Common.{◌≡◌, ◌<◌, ℕ, map, take, slice_index}
use Rattle.code_model.specs.Fields.{fields}
use Rattle.insert_model.specs.Inserted.{moved}
use Rattle.insert_model.specs.Layout.{place_map}
use Rattle.check_inserter.proofs.moving.moved_words.Given as goal

abbrev pub invariant-loop-word : goal.invariant-loop-word
invariant-loop-word l = record {
  moved : l.code ≡ map (moved (place_map (fields l.o))) (take l.word-index l.laid.words.items);
  small : (k : ℕ) → slice_index l.code k < 65536;
}

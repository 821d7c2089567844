use Rattle.std.proofs.Common.{◌≡◌, ◌++◌, take}
use Rattle.insert_model.specs.Words.{unit_words}
use Rattle.check_inserter.proofs.words.put_pieces.Given as goal

abbrev pub invariant-loop-piece : goal.invariant-loop-piece
invariant-loop-piece l = l.out.items ≡ l.initial.out.items ++ unit_words (take l.piece-index l.pieces)

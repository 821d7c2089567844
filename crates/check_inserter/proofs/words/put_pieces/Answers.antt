use Rattle.check_inserter.proofs.Growing.{unit_words_none, unit_words_more, fit_at}
use Rattle.check_inserter.proofs.words.put_pieces.Goals as goal

pub loop-piece-init : goal.loop-piece-init
loop-piece-init c = unit_words_none _

pub put_piece-requires : goal.put_piece-requires
put_piece-requires c = fit_at c.args.pieces.now c.loop-piece.piece-index _ c.requires c.loop-piece-test.true

pub loop-piece-preserved : goal.loop-piece-preserved
loop-piece-preserved c = unit_words_more _ _ _ c.args.pieces.now c.loop-piece.piece-index _ c.loop-piece-test.true c.loop-piece.invariant c.in_ok-put_piece.ensures

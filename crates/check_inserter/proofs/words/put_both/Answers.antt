use Rattle.check_inserter.proofs.Growing.{both_words}
use Rattle.check_inserter.proofs.words.put_both.Goals as goal

pub returns : goal.returns
returns c = both_words _ _ _ c.args.front.now c.args.back.now c.in_ok-put_pieces.ensures c.in_ok-put_pieces-2.ensures

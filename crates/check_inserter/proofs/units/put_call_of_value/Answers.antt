use Rattle.check_inserter.proofs.Joins.{calling_words}
use Rattle.check_inserter.proofs.units.put_call_of_value.Goals as goal

pub returns : goal.returns
returns c =
    calling_words c.args.out.now.items _ _ c.args.src c.args.kind _ _ _ c.into_r4.ensures c.growth_guard.ensures.is c.plain.ensures c.in_ok-put_both.ensures c.in_ok-put_pieces.ensures

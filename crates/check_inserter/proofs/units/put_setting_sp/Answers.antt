use Rattle.check_inserter.proofs.Joins.{setting_words}
use Rattle.check_inserter.proofs.units.put_setting_sp.Goals as goal

pub returns : goal.returns
returns c =
    setting_words c.args.out.now.items _ _ c.args.op c.args.width c.args.src c.args.kind _ _ _ _ c.take_sp.ensures c.into_r4.ensures c.sp_guard.ensures.is c.give_sp.ensures
    c.in_ok-put_both.ensures c.in_ok-put_pieces.ensures

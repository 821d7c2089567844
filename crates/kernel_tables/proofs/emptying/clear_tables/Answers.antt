use Rattle.kernel_tables.proofs.ClearLemmas.{tables_cleared}
use Rattle.kernel_tables.proofs.emptying.clear_tables.Goals as goal

pub returns : goal.returns
returns c =
    tables_cleared c.args.m.now c.put_words.new.m c.fill.new.m c.free_functions.new.m c.fill-2.new.m c.free_mutexes.new.m
    c.fill-3.new.m c.fill-4.new.m c.is_flat.ensures.size c.put_words.ensures c.fill.ensures c.free_functions.ensures
    c.fill-2.ensures c.free_mutexes.ensures c.fill-3.ensures c.fill-4.ensures

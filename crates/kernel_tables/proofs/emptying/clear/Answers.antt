use Rattle.kernel_tables.proofs.ClearLemmas.{cleared_lem}
use Rattle.kernel_tables.proofs.emptying.clear.Goals as goal

pub returns : goal.returns
returns c = cleared_lem c.args.m.now c.clear_tables.new.m c.put_vectors.new.m c.is_flat.ensures.size c.clear_tables.ensures c.put_vectors.ensures

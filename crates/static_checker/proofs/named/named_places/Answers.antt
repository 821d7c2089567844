use Rattle.std.proofs.Common.{arith}
use Rattle.static_checker.proofs.PlaceLemmas.{named_begins, named_next, named_end}
use Rattle.static_checker.proofs.named.named_places.Goals as goal

pub loop-index-init : goal.loop-index-init
loop-index-init c = named_begins c.args.o.now _ _ c.new-named.ensures.empty c.mark_entry.ensures

pub loop-index-preserved : goal.loop-index-preserved
loop-index-preserved c = named_next c.args.o.now _ _ _ c.loop-index.invariant c.mark_export.ensures

pub returns : goal.returns
returns c = named_end c.args.o.now _ c.loop-index.index (omega arith) c.loop-index.invariant

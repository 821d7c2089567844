use Rattle.std.proofs.Common.{arith, sym, subst}
use Rattle.edge_io.specs.Turns.{Offers, no_offer, next_offer}
use Rattle.edge_io.proofs.Progress.{got_start, got_more}
use Rattle.edge_io.proofs.whole.write_all.Goals as goal

pub loop-rest-init : goal.loop-rest-init
loop-rest-init g c = record {
  before = got_start _ _;
  later = omega arith;
  turns = no_offer;
}

pub loop-rest-preserved : goal.loop-rest-preserved
loop-rest-preserved g c = record {
  before = got_more _ _ _ _ _ _ _ c.loop-rest.invariant.before c.past-rest.ensures.parts c.in-Ok.ensures.bytes;
  later = omega (arith, c.loop-rest.invariant.later, c.in-Ok.ensures.cause.later);
  turns =
      subst (λ rest. Offers g.S.Sink.called c.args.sink.now c.args.piece.now c.write.new.self rest) (sym c.past-rest.ensures.rest) (next_offer c.loop-rest.invariant.turns c.in-Ok.ensures.call (omega (arith, c.in-Ok.n-test.1)));
}

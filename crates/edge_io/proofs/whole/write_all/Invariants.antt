use Rattle.std.proofs.Common.{◌≤◌, length}
use Rattle.edge_io.specs.Steps.{GotBefore}
use Rattle.edge_io.specs.Turns.{Offers}
use Rattle.edge_io.proofs.whole.write_all.Given as goal

abbrev pub invariant-loop-rest : goal.invariant-loop-rest
invariant-loop-rest g l = record {
  before : GotBefore (g.S.Sink.state l.fn.sink).bytes (g.S.Sink.state l.sink).bytes l.fn.piece l.rest;
  later : (g.S.Sink.state l.fn.sink).faults ≤ (g.S.Sink.state l.sink).faults;
  turns : Offers g.S.Sink.called l.fn.sink l.fn.piece l.sink l.rest;
}

abbrev pub decreases-loop-rest : goal.decreases-loop-rest
decreases-loop-rest g l = length l.rest

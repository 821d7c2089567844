use Rattle.std.proofs.Common.{◌≤◌, ◌-◌, length}
use Rattle.retos_node.specs.Printing.{Printed}
use Rattle.retos_node.proofs.Writing.{tail_to}
use Rattle.retos_node.proofs.tails.print_tail.Given as goal

abbrev pub invariant-loop-line : goal.invariant-loop-line
invariant-loop-line g l = record {
  printed : Printed g.S.Sink.called g.S.Sink.state l.initial.out l.out (tail_to l.tail l.at);
  within : l.at ≤ length l.tail;
  later : (g.S.Sink.state l.initial.out).faults ≤ (g.S.Sink.state l.out).faults;
}

abbrev pub decreases-loop-line : goal.decreases-loop-line
decreases-loop-line g l = length l.tail - l.at

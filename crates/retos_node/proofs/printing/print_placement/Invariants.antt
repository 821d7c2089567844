use Rattle.std.proofs.Common.{◌≤◌}
use Rattle.kernel_model.specs.Layout.{kernel_of}
use Rattle.retos_node.specs.Printing.{Printed, placement_lines}
use Rattle.retos_node.proofs.printing.print_placement.Given as goal

abbrev pub invariant-loop-object : goal.invariant-loop-object
invariant-loop-object g l = record {
  printed : Printed g.S.Sink.called g.S.Sink.state l.initial.out l.out (placement_lines (kernel_of l.m) l.owner l.object);
  later : (g.S.Sink.state l.initial.out).faults ≤ (g.S.Sink.state l.out).faults;
}

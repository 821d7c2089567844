use Rattle.std.proofs.Common.{◌≤◌, map}
use Rattle.kernel_model.specs.Layout.{kernel_of}
use Rattle.node_model.specs.Nodes.{placement_line}
use Rattle.retos_node.specs.Printing.{Printed, numbers_below}
use Rattle.retos_node.proofs.printing.print_object.Given as goal

abbrev pub invariant-loop-number : goal.invariant-loop-number
invariant-loop-number g l = record {
  printed : Printed g.S.Sink.called g.S.Sink.state l.initial.out l.out (map (placement_line (kernel_of l.m)) (numbers_below l.owner l.object l.number));
  later : (g.S.Sink.state l.initial.out).faults ≤ (g.S.Sink.state l.out).faults;
}

use Rattle.std.proofs.Common.{◌++◌, sym, subst, List, ℕ, arith}
use Rattle.kernel_model.specs.Layout.{kernel_of}
use Rattle.retos_node.specs.Printing.{Printed, placement_lines}
use Rattle.retos_node.proofs.Writing.{printed_none, printed_then, cut_after, cut_within, lines_below, none_placed, one_placed, rest_placed}
use Rattle.retos_node.proofs.printing.print_placement.Goals as goal

pub loop-object-init : goal.loop-object-init
loop-object-init g c = record {
  printed =
      subst (λ (l : List (List ℕ)). Printed g.S.Sink.called g.S.Sink.state c.args.out.now c.args.out.now l)
      (sym (none_placed (kernel_of c.args.m.now) c.args.owner.now)) (printed_none g.S.Sink.called g.S.Sink.state c.args.out.now);
  later = omega arith;
}

pub returns-in-Err-clause-prefix : goal.returns-in-Err-clause-prefix
returns-in-Err-clause-prefix g c =
    let rest = rest_placed (kernel_of c.args.m.now) c.args.owner.now c.loop-object.object c.args.count (omega (arith, c.loop-object-test.true)) in
    cut_within g.S.Sink.called g.S.Sink.state c.args.out.now c.print_object.new.out
    (placement_lines (kernel_of c.args.m.now) c.args.owner.now c.loop-object.object
    ++ lines_below (kernel_of c.args.m.now) c.args.owner.now c.loop-object.object 12)
    rest.0 (placement_lines (kernel_of c.args.m.now) c.args.owner.now c.args.count) c.in-Err.fault
    (cut_after g.S.Sink.called g.S.Sink.state c.args.out.now c.loop-object.out c.print_object.new.out
    (placement_lines (kernel_of c.args.m.now) c.args.owner.now c.loop-object.object)
    (lines_below (kernel_of c.args.m.now) c.args.owner.now c.loop-object.object 12) c.in-Err.fault
    c.loop-object.invariant.printed c.in-Err.ensures.prefix)
    rest.1

pub loop-object-preserved : goal.loop-object-preserved
loop-object-preserved g c = record {
  printed =
      subst (λ (l : List (List ℕ)). Printed g.S.Sink.called g.S.Sink.state c.args.out.now c.print_object.new.out l)
      (one_placed (kernel_of c.args.m.now) c.args.owner.now c.loop-object.object)
      (printed_then g.S.Sink.called g.S.Sink.state c.args.out.now c.loop-object.out c.print_object.new.out
      (placement_lines (kernel_of c.args.m.now) c.args.owner.now c.loop-object.object)
      (lines_below (kernel_of c.args.m.now) c.args.owner.now c.loop-object.object 12)
      c.loop-object.invariant.printed c.in-Ok.ensures.whole);
  later = omega (arith, c.loop-object.invariant.later, c.in-Ok.ensures.cause.later);
}

use Rattle.std.proofs.Common.{◌++◌, sym, subst, List, ℕ, arith}
use Rattle.kernel_model.specs.Layout.{kernel_of}
use Rattle.retos_node.specs.Printing.{Printed}
use Rattle.retos_node.proofs.Writing.{printed_none, printed_then, cut_after, cut_within, lines_below, own_line, none_below, one_below, rest_below}
use Rattle.retos_node.proofs.printing.print_object.Goals as goal

pub loop-number-init : goal.loop-number-init
loop-number-init g c = record {
  printed =
      subst (λ (l : List (List ℕ)). Printed g.S.Sink.called g.S.Sink.state c.args.out.now c.args.out.now l)
      (sym (none_below (kernel_of c.args.m.now) c.args.owner.now c.args.object))
      (printed_none g.S.Sink.called g.S.Sink.state c.args.out.now);
  later = omega arith;
}

pub returns-in-Err-clause-prefix : goal.returns-in-Err-clause-prefix
returns-in-Err-clause-prefix g c =
    let rest = rest_below (kernel_of c.args.m.now) c.args.owner.now c.args.object c.loop-number.number 12 (omega (arith, c.loop-number-test.true)) in
    cut_within g.S.Sink.called g.S.Sink.state c.args.out.now c.print_owned.new.out
    (lines_below (kernel_of c.args.m.now) c.args.owner.now c.args.object c.loop-number.number
    ++ own_line (kernel_of c.args.m.now) c.args.owner.now c.args.object c.loop-number.number)
    rest.0 (lines_below (kernel_of c.args.m.now) c.args.owner.now c.args.object 12) c.in-Err.fault
    (cut_after g.S.Sink.called g.S.Sink.state c.args.out.now c.loop-number.out c.print_owned.new.out
    (lines_below (kernel_of c.args.m.now) c.args.owner.now c.args.object c.loop-number.number)
    (own_line (kernel_of c.args.m.now) c.args.owner.now c.args.object c.loop-number.number) c.in-Err.fault
    c.loop-number.invariant.printed c.in-Err.ensures.prefix)
    rest.1

pub loop-number-preserved : goal.loop-number-preserved
loop-number-preserved g c = record {
  printed =
      subst (λ (l : List (List ℕ)). Printed g.S.Sink.called g.S.Sink.state c.args.out.now c.print_owned.new.out l)
      (one_below (kernel_of c.args.m.now) c.args.owner.now c.args.object c.loop-number.number)
      (printed_then g.S.Sink.called g.S.Sink.state c.args.out.now c.loop-number.out c.print_owned.new.out
      (lines_below (kernel_of c.args.m.now) c.args.owner.now c.args.object c.loop-number.number)
      (own_line (kernel_of c.args.m.now) c.args.owner.now c.args.object c.loop-number.number)
      c.loop-number.invariant.printed c.in-Ok.ensures.whole);
  later = omega (arith, c.loop-number.invariant.later, c.in-Ok.ensures.cause.later);
}

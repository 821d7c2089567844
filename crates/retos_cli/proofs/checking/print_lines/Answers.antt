use Rattle.std.proofs.Common.{arith}
use Rattle.retos_cli.specs.Lines.{accepted_lines}
use Rattle.retos_cli.proofs.Gathering.{lines_step, lines_cut, lines_end_names, lines_end_objects}
use Rattle.retos_cli.proofs.checking.print_lines.Goals as goal

pub returns-in-Err-clause-prefix : goal.returns-in-Err-clause-prefix
returns-in-Err-clause-prefix g c =
    lines_cut (g.O.Sink.state c.args.out.now).bytes (g.O.Sink.state c.lines.out).bytes (g.O.Sink.state c.print_line.new.out).bytes (accepted_lines c.args.names.now c.args.objects.now) c.line_at-line.result c.args.names.now c.args.objects.now c.lines.at
    c.lines.invariant.0 (omega (arith, c.lines-test.true, c.len.ensures)) (omega (arith, c.if-at-len.true, c.len-in-lines.ensures)) c.line_at-line.ensures c.in-Err.ensures.prefix

pub lines-preserved : goal.lines-preserved
lines-preserved g c = (
  lines_step (g.O.Sink.state c.args.out.now).bytes (g.O.Sink.state c.lines.out).bytes (g.O.Sink.state c.print_line.new.out).bytes (accepted_lines c.args.names.now c.args.objects.now) c.line_at-line.result c.args.names.now c.args.objects.now c.lines.at
      c.lines.invariant.0 (omega (arith, c.lines-test.true, c.len.ensures)) (omega (arith, c.if-at-len.true, c.len-in-lines.ensures)) c.line_at-line.ensures c.in-Ok.ensures.whole,
  omega (arith, c.lines.invariant.1, c.in-Ok.ensures.cause.later),
)

pub returns-else-at-len-clause-whole : goal.returns-else-at-len-clause-whole
returns-else-at-len-clause-whole g c =
    lines_end_objects (g.O.Sink.state c.args.out.now).bytes (g.O.Sink.state c.lines.out).bytes (accepted_lines c.args.names.now c.args.objects.now) c.args.names.now c.args.objects.now c.lines.at c.lines.invariant.0 (omega (arith, c.if-at-len.false, c.len-in-lines.ensures))

pub returns-after-lines-clause-whole : goal.returns-after-lines-clause-whole
returns-after-lines-clause-whole g c =
    lines_end_names (g.O.Sink.state c.args.out.now).bytes (g.O.Sink.state c.lines.out).bytes (accepted_lines c.args.names.now c.args.objects.now) c.args.names.now c.args.objects.now c.lines.at c.lines.invariant.0 (omega (arith, c.lines-test.false, c.len.ensures))

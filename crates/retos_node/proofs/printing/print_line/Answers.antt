use Rattle.retos_node.proofs.Writing.{printed_one, cut_one}
use Rattle.retos_node.proofs.printing.print_line.Goals as goal

pub returns-in-Ok-clause-whole : goal.returns-in-Ok-clause-whole
returns-in-Ok-clause-whole g c =
    printed_one g.S.Sink.called g.S.Sink.state c.args.out.now c.write_all.new.sink c.args.line.now c.in-Ok.ensures.whole c.in-Ok.ensures.calls

pub returns-in-Err-clause-prefix : goal.returns-in-Err-clause-prefix
returns-in-Err-clause-prefix g c =
    cut_one g.S.Sink.called g.S.Sink.state c.args.out.now c.write_all.new.sink c.args.line.now c.in-Err.fault c.in-Err.ensures.prefix c.in-Err.ensures.calls

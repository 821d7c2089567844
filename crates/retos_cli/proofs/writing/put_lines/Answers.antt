use Rattle.retos_cli.proofs.TwoLines.{two_lines}
use Rattle.retos_cli.proofs.writing.put_lines.Goals as goal

pub returns-in-Ok : goal.returns-in-Ok
returns-in-Ok g c =
    two_lines (g.F.Folder.state c.args.files.now) (g.F.Folder.state c.put_text.new.files) (g.O.Sink.state c.args.out.now) (g.O.Sink.state c.put_text.new.out) (g.O.Sink.state c.write_all.new.sink) c.args.to.now c.args.text.now
    c.args.first.now c.args.second.now c.as_slice.result.now c.as_slice.ensures c.write_all.result c.in-Ok.ensures.put.0 c.in-Ok.ensures.put.1 c.in-Ok.ensures.later
    c.write_all.ensures.whole c.write_all.ensures.prefix c.write_all.ensures.cause

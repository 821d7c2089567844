use Rattle.std.proofs.Common.{refl}
use Rattle.retos_cli.proofs.Guarding.{insert_ended, insert_stopped}
use Rattle.retos_cli.proofs.inserting.insert_file.Goals as goal

pub returns-in-Ok : goal.returns-in-Ok
returns-in-Ok g c =
    insert_ended (g.F.Folder.state c.args.files.now) (g.F.Folder.state c.take_plain.new.files) (g.F.Folder.state c.put_object.new.files) (g.O.Sink.state c.args.out.now) (g.O.Sink.state c.put_object.new.out) c.args.from.now c.args.to.now c.in-Ok.object
    c.line_for.result c.put_object.result c.in-Ok.ensures.ends c.in-Ok.ensures.read c.line_for.ensures c.put_object.ensures

pub returns-in-Err : goal.returns-in-Err
returns-in-Err g c =
    insert_stopped (g.F.Folder.state c.args.files.now) (g.F.Folder.state c.take_plain.new.files) (g.O.Sink.state c.args.out.now) (g.O.Sink.state c.args.out.now) c.args.from.now c.args.to.now c.in-Err.stop c.in-Err.ensures.ends c.in-Err.ensures.read refl

use Rattle.retos_cli.proofs.Inputs.{unread_stops}
use Rattle.retos_cli.proofs.input.take.Goals as goal

pub returns-clause-ends : goal.returns-clause-ends
returns-clause-ends g c = unread_stops (g.F.Folder.state c.args.files.now) (g.F.Folder.state c.read_all.new.files) c.args.name.now c.args.purpose c.in-Err.fault c.unread.result c.in-Err.ensures.answer c.in-Err.ensures.leaves c.unread.ensures

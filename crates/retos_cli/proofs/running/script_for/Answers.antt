use Rattle.retos_cli.proofs.Runs.{script_got}
use Rattle.retos_cli.proofs.running.script_for.Goals as goal

pub returns-in-Some-clause-ends : goal.returns-in-Some-clause-ends
returns-in-Some-clause-ends g c = script_got (g.F.Folder.state c.args.files.now) (g.F.Folder.state c.take_script.new.files) c.args.script.now c.in-Some.name c.take_script.result c.in-Some.is c.take_script.ensures.ends

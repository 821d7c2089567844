use Rattle.retos_cli.proofs.Runs.{supplied, objects_stop, script_stops}
use Rattle.retos_cli.specs.Meaning.{named_inputs, form_by}
use Rattle.retos_cli.proofs.running.supply.Goals as goal

pub returns-in-Ok-take_all-clause-ends : goal.returns-in-Ok-take_all-clause-ends
returns-in-Ok-take_all-clause-ends g c =
    supplied (g.F.Folder.state c.args.files.now) (g.F.Folder.state c.script_for.new.files) c.args.job.now c.in-Ok.script c.in-Ok-take_all.objects c.purpose_of.result
    c.in-Ok.ensures.ends c.in-Ok.ensures.read c.purpose_of.ensures.purpose c.in-Ok-take_all.ensures.ends

pub returns-in-Err-take_all-clause-ends : goal.returns-in-Err-take_all-clause-ends
returns-in-Err-take_all-clause-ends g c =
    objects_stop (g.F.Folder.state c.args.files.now) (g.F.Folder.state c.script_for.new.files) (g.F.Folder.state c.take_all.new.files) c.args.job.now c.in-Ok.script c.purpose_of.result c.in-Err-take_all.stop
    c.in-Ok.ensures.ends c.in-Ok.ensures.read c.purpose_of.ensures.purpose c.in-Err-take_all.ensures.ends

pub returns-in-Err-clause-ends : goal.returns-in-Err-clause-ends
returns-in-Err-clause-ends g c =
    script_stops (g.F.Folder.state c.args.files.now) (g.F.Folder.state c.script_for.new.files) c.args.job.now.script (named_inputs (form_by c.args.job.now.script) c.args.job.now.names) c.in-Err.stop c.in-Err.ensures.ends

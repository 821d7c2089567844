use Rattle.retos_cli.specs.declared.purpose.Purpose.TheVariants.{Plain}
use Rattle.retos_cli.proofs.Guarding.{guarded_told}
use Rattle.retos_cli.proofs.Inputs.{unread_stops}
use Rattle.retos_cli.proofs.inserting.take_plain.Goals as goal

pub returns-in-Ok-guard-clause-ends : goal.returns-in-Ok-guard-clause-ends
returns-in-Ok-guard-clause-ends g c = guarded_told (g.F.Folder.state c.args.files.now).files c.args.name.now c.in-Ok.text c.as_slice.result.now c.in-Ok-guard.object c.in-Ok.ensures.answer c.as_slice.ensures c.in-Ok-guard.ensures

pub returns-clause-ends : goal.returns-clause-ends
returns-clause-ends g c = unread_stops (g.F.Folder.state c.args.files.now) (g.F.Folder.state c.read_all.new.files) c.args.name.now Plain c.in-Err.fault c.unread.result c.in-Err.ensures.answer c.in-Err.ensures.leaves c.unread.ensures

use Rattle.retos_cli.specs.declared.purpose.Purpose.TheVariants.{Source}
use Rattle.retos_cli.proofs.Inputs.{line_told, unread_stops}
use Rattle.retos_cli.proofs.assembling.take_source.Goals as goal

pub returns-in-Err-At-clause-ends : goal.returns-in-Err-At-clause-ends
returns-in-Err-At-clause-ends g c =
    line_told (g.F.Folder.state c.args.files.now).files c.args.name.now c.copied.result c.in-Ok.source c.as_slice.result.now c.in-Err-At.line c.in-Err-At.kind c.in-Err-At.field-0
    c.in-Ok.ensures.answer c.as_slice.ensures c.in-Ok.ensures.small c.in-Err-At.ensures c.in-Err-At.field-0-is c.copied.ensures

pub returns-clause-ends : goal.returns-clause-ends
returns-clause-ends g c = unread_stops (g.F.Folder.state c.args.files.now) (g.F.Folder.state c.read_all.new.files) c.args.name.now Source c.in-Err.fault c.unread.result c.in-Err.ensures.answer c.in-Err.ensures.leaves c.unread.ensures

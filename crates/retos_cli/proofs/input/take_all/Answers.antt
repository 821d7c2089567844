use Rattle.std.proofs.Common.{arith}
use Rattle.retos_cli.proofs.Named.{the_word}
use Rattle.retos_cli.proofs.Gathering.{gathering_more, gathering_stops, gathering_all}
use Rattle.retos_cli.proofs.input.take_all.Goals as goal

pub returns-in-Err-clause-ends : goal.returns-in-Err-clause-ends
returns-in-Err-clause-ends g c =
    gathering_stops c.args.purpose (g.F.Folder.state c.args.files.now) (g.F.Folder.state c.inputs.files) (g.F.Folder.state c.take.new.files) c.args.names.now c.at.result.now c.inputs.objects c.inputs.at c.in-Err.stop
    c.inputs.invariant (omega (arith, c.inputs-test.true, c.len.ensures)) (the_word c.args.names.now c.inputs.at c.at.result.now c.at.ensures) c.in-Err.ensures.ends

pub inputs-preserved : goal.inputs-preserved
inputs-preserved g c =
    gathering_more c.args.purpose (g.F.Folder.state c.args.files.now) (g.F.Folder.state c.inputs.files) (g.F.Folder.state c.take.new.files) c.args.names.now c.at.result.now c.inputs.objects c.push.new.self c.inputs.at c.in-Ok.object c.in-Ok.marks
    c.requires.asked c.inputs.invariant (omega (arith, c.inputs-test.true, c.len.ensures)) (the_word c.args.names.now c.inputs.at c.at.result.now c.at.ensures) c.in-Ok.ensures.ends c.take.ensures.read c.in-Ok-push.ensures.pushed

pub returns-clause-ends : goal.returns-clause-ends
returns-clause-ends g c =
    gathering_all c.args.purpose (g.F.Folder.state c.args.files.now) (g.F.Folder.state c.inputs.files) c.args.names.now c.inputs.objects c.inputs.at c.inputs.invariant (omega (arith, c.inputs-test.false, c.len.ensures))

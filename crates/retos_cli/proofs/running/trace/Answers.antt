use Rattle.retos_cli.proofs.Runs.{traced, trace_cut}
use Rattle.retos_cli.proofs.running.trace.Goals as goal

pub returns-in-Ok : goal.returns-in-Ok
returns-in-Ok g c =
    traced c.args.node c.run.new.self c.args.objects.now c.args.job.now c.args.script.now (g.O.Sink.state c.args.out.now) (g.O.Sink.state c.run.new.out) c.in-Ok.end c.faults_of.result
    c.requires.boots c.requires.shows c.in-Ok.ensures.whole c.faults_of.ensures

pub returns : goal.returns
returns g c =
    trace_cut c.args.node c.run.new.self c.args.objects.now c.args.job.now c.args.script.now (g.O.Sink.state c.args.out.now) (g.O.Sink.state c.run.new.out)
    c.requires.boots c.requires.shows c.in-Err.ensures.prefix c.in-Err.ensures.cause.failed

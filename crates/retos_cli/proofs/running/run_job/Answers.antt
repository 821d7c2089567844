use Rattle.std.proofs.Common.{refl}
use Rattle.retos_cli.proofs.Runs.{run_ended, run_stopped}
use Rattle.retos_cli.proofs.running.run_job.Goals as goal

pub returns-in-Ok : goal.returns-in-Ok
returns-in-Ok g c =
    run_ended (g.F.Folder.state c.args.files.now) (g.F.Folder.state c.supply.new.files) (g.O.Sink.state c.args.out.now) (g.O.Sink.state c.run_supplied.new.out) c.args.job.now c.in-Ok.script c.in-Ok.objects c.run_supplied.result
    c.in-Ok.ensures.ends c.in-Ok.ensures.read c.run_supplied.ensures

pub returns-in-Err : goal.returns-in-Err
returns-in-Err g c =
    run_stopped (g.F.Folder.state c.args.files.now) (g.F.Folder.state c.supply.new.files) (g.O.Sink.state c.args.out.now) (g.O.Sink.state c.args.out.now) c.args.job.now c.in-Err.stop c.in-Err.ensures.ends c.in-Err.ensures.read refl

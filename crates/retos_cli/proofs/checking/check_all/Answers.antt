use Rattle.retos_cli.proofs.Runs.{check_done, check_cut}
use Rattle.retos_cli.proofs.checking.check_all.Goals as goal

pub returns-in-Ok-print_lines : goal.returns-in-Ok-print_lines
returns-in-Ok-print_lines g c =
    check_done (g.F.Folder.state c.args.files.now) (g.F.Folder.state c.take_all.new.files) (g.O.Sink.state c.args.out.now) (g.O.Sink.state c.print_lines.new.out) c.args.names.now c.in-Ok.objects
    c.in-Ok.ensures.ends c.in-Ok.ensures.read c.in-Ok-print_lines.ensures.whole

pub returns-in-Ok : goal.returns-in-Ok
returns-in-Ok g c =
    check_cut (g.F.Folder.state c.args.files.now) (g.F.Folder.state c.take_all.new.files) (g.O.Sink.state c.args.out.now) (g.O.Sink.state c.print_lines.new.out) c.args.names.now c.in-Ok.objects
    c.in-Ok.ensures.ends c.in-Ok.ensures.read c.in-Err-print_lines.ensures.cause.failed c.in-Err-print_lines.ensures.prefix

use Rattle.std.proofs.Common.{◌-◌, ◌≤◌, length, drop}
use Rattle.retos_cli.proofs.Pieces.{GotBefore}
use Rattle.retos_cli.specs.Lines.{accepted_lines}
use Rattle.retos_cli.proofs.checking.print_lines.Given as goal

abbrev pub invariant-lines : goal.invariant-lines
invariant-lines g l =
    GotBefore (g.O.Sink.state l.initial.out).bytes (g.O.Sink.state l.out).bytes (accepted_lines l.names l.objects) (accepted_lines (drop l.at l.names) (drop l.at l.objects))
    × ((g.O.Sink.state l.initial.out).faults ≤ (g.O.Sink.state l.out).faults)

abbrev pub decreases-lines : goal.decreases-lines
decreases-lines g l = length l.names - l.at

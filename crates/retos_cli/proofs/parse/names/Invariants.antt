use Rattle.std.proofs.Common.{◌≡◌, drop}
use Rattle.retos_cli.specs.Commands.{names_of}
use Rattle.retos_cli.proofs.Gathered.{gathered}
use Rattle.retos_cli.proofs.parse.names.Given as goal

abbrev pub invariant-loop-at : goal.invariant-loop-at
invariant-loop-at l = gathered l.names (drop l.at l.words) ≡ names_of (drop l.from l.words)

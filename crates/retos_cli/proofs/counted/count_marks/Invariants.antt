use Rattle.std.proofs.Common.{◌≡◌, ◌≤◌}
use Rattle.retos_cli.specs.Lines.{marked_below}
use Rattle.retos_cli.proofs.counted.count_marks.Given as goal

abbrev pub invariant-loop-at : goal.invariant-loop-at
invariant-loop-at l = (l.count ≡ marked_below l.units l.at) × (l.count ≤ l.at)

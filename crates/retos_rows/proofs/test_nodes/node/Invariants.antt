use Rattle.std.proofs.Common.{◌≡◌, None}
use Rattle.retos_rows.proofs.test_nodes.node.Given as goal

abbrev pub invariant-loop-source : goal.invariant-loop-source
invariant-loop-source l = l.files.created ≡ None

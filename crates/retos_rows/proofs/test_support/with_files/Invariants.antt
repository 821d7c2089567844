use Rattle.std.proofs.Common.{◌≡◌, None}
use Rattle.retos_rows.proofs.test_support.with_files.Given as goal

abbrev pub invariant-loop-name : goal.invariant-loop-name
invariant-loop-name l = l.files.created ≡ None

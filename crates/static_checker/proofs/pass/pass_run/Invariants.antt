use Rattle.std.proofs.Common.{◌≤◌, ◌+◌, ◌-◌, ◌≡◌, None, length}
use Rattle.static_checker.specs.Passed.{IsGone}
use Rattle.static_checker.proofs.PassLemmas.{IsToServe}
use Rattle.static_checker.proofs.pass.pass_run.Given as goal

abbrev pub invariant-loop-next : goal.invariant-loop-next
invariant-loop-next l = record {
  gone : IsGone l.o l.pass;
  next : IsToServe l.o l.from.at l.served l.pass.cursor.at l.pass.units l.next;
  free : l.pass.begun ≡ None;
  further : l.fn.pass.cursor.at + l.served ≤ l.pass.cursor.at;
  some : l.next ≡ None → 1 ≤ l.served;
}

abbrev pub decreases-loop-next : goal.decreases-loop-next
decreases-loop-next l = length l.o.code - l.pass.cursor.at

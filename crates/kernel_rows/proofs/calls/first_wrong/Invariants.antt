use Rattle.place_model.specs.Settled.{IsSettled}
use Rattle.kernel_rows.proofs.calls.first_wrong.Given as goal

abbrev pub invariant-loop-i : goal.invariant-loop-i
invariant-loop-i l = IsSettled l.m

use Rattle.place_model.specs.Settled.{IsSettled}
use Rattle.kernel_rows.proofs.calls.four_sleep.Given as goal

abbrev pub invariant-loop-call : goal.invariant-loop-call
invariant-loop-call l = IsSettled l.m

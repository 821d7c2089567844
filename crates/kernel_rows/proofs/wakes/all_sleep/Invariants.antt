use Rattle.place_model.specs.Settled.{IsSettled}
use Rattle.kernel_rows.proofs.wakes.all_sleep.Given as goal

abbrev pub invariant-loop-a : goal.invariant-loop-a
invariant-loop-a l = IsSettled l.m

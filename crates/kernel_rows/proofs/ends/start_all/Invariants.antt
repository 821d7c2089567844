use Rattle.place_model.specs.Settled.{IsSettled}
use Rattle.kernel_rows.proofs.ends.start_all.Given as goal

abbrev pub invariant-loop-a : goal.invariant-loop-a
invariant-loop-a g l = IsSettled l.m

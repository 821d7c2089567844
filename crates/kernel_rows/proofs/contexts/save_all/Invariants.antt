use Rattle.place_model.specs.Settled.{IsSettled}
use Rattle.kernel_rows.proofs.contexts.save_all.Given as goal

abbrev pub invariant-loop-n : goal.invariant-loop-n
invariant-loop-n l = IsSettled l.m

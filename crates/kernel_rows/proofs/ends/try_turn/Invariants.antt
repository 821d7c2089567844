use Rattle.place_model.specs.Settled.{IsSettled}
use Rattle.kernel_rows.proofs.ends.try_turn.Given as goal

abbrev pub invariant-loop-call : goal.invariant-loop-call
invariant-loop-call g l = IsSettled l.m

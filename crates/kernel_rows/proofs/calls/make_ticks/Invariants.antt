use Rattle.place_model.specs.Settled.{IsSettled}
use Rattle.kernel_rows.proofs.calls.make_ticks.Given as goal

abbrev pub invariant-loop-turn : goal.invariant-loop-turn
invariant-loop-turn l = IsSettled l.m

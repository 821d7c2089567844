use Rattle.place_model.specs.Settled.{IsSettled}
use Rattle.kernel_rows.proofs.ends.try_turns.Given as goal

abbrev pub invariant-loop-turn : goal.invariant-loop-turn
invariant-loop-turn g l = IsSettled l.m

use Rattle.place_model.specs.Settled.{IsSettled}
use Rattle.load_rows.proofs.loading.refused.Given as goal

abbrev pub invariant-loop-count : goal.invariant-loop-count
invariant-loop-count l = IsSettled l.m

use Rattle.std.proofs.Common.{◌≡◌, ◌++◌, replicate}
use Rattle.check_inserter.proofs.laying.put_places.Given as goal

abbrev pub invariant-loop-round : goal.invariant-loop-round
invariant-loop-round l = l.places.items ≡ l.initial.places.items ++ replicate l._round l.place

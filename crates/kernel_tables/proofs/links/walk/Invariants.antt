use Rattle.kernel_tables.proofs.WalkLemmas.{Walks}
use Rattle.kernel_tables.proofs.links.walk.Given as goal

abbrev pub invariant-loop : goal.invariant-loop
invariant-loop l = Walks l.fn.m l.fn.q l.initial.list.items l.list.items l.counter l.link

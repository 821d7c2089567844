use Rattle.retos_node.proofs.BootLemmas.{AreStarted}
use Rattle.retos_node.proofs.booting.start_all.Given as goal

-- the threads of the applications before this one were started
abbrev pub invariant-loop-a : goal.invariant-loop-a
invariant-loop-a l = AreStarted l.initial.m l.m l.a

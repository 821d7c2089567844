use Rattle.kernel_fixture.proofs.EightApps.{HasRows}
use Rattle.kernel_fixture.proofs.memories.put_eight.Given as goal

abbrev pub invariant-loop-a : goal.invariant-loop-a
invariant-loop-a l = HasRows l.m l.a

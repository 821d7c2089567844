use Rattle.static_checker.specs.Passed.{IsPassed, left}
use Rattle.static_checker.proofs.pass.pass_over.Given as goal

abbrev pub invariant-loop-pass : goal.invariant-loop-pass
invariant-loop-pass l = IsPassed l.o l.pass

abbrev pub decreases-loop-pass : goal.decreases-loop-pass
decreases-loop-pass l = left l.o l.pass

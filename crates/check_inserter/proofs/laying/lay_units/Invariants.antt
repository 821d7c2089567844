use Rattle.check_inserter.proofs.LaidUnits.{IsLaidTo}
use Rattle.check_inserter.proofs.laying.lay_units.Given as goal

abbrev pub invariant-loop-i : goal.invariant-loop-i
invariant-loop-i g l = IsLaidTo g.js l.o l.lines l.i l.skip l.words.items l.places.items

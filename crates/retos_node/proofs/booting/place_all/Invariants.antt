use Rattle.retos_node.specs.Boots.{IsUnderway}
use Rattle.retos_node.proofs.booting.place_all.Given as goal

-- the objects before this one are placed
abbrev pub invariant-loop-i : goal.invariant-loop-i
invariant-loop-i l = IsUnderway l.m l.owner l.objects l.i

use Rattle.kernel_tables.proofs.PieceLemmas.{ReadSoFar}
use Rattle.kernel_tables.proofs.pieces.list_at.Given as goal

abbrev pub invariant-loop-i : goal.invariant-loop-i
invariant-loop-i g l = ReadSoFar l.m l.at l.i l.i-end l.list.items

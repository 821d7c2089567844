use Rattle.object_form.proofs.EntryLemmas.{RelocsSoFar}
use Rattle.object_form.proofs.lists.read_relocs.Given as goal

abbrev pub invariant-loop-k : goal.invariant-loop-k
invariant-loop-k l = RelocsSoFar l.text l.start l.k l.relocs l.least

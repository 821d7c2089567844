use Rattle.object_form.proofs.EntryLemmas.{ExportsSoFar}
use Rattle.object_form.proofs.lists.read_exports.Given as goal

abbrev pub invariant-loop-k : goal.invariant-loop-k
invariant-loop-k l = ExportsSoFar l.text l.start l.k l.exports l.least

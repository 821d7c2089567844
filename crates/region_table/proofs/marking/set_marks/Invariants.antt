use Rattle.std.proofs.Common.{◌+◌, ◌*◌}
use Rattle.place_model.specs.Marking.{Marked}
use Rattle.region_table.proofs.BitLemmas.{up_to}
use Rattle.region_table.proofs.marking.set_marks.Given as goal

abbrev pub invariant-loop-word : goal.invariant-loop-word
invariant-loop-word l = Marked l.initial.m l.m (up_to l.r (l.r.code_lo + 2 * l.word)) l.marks

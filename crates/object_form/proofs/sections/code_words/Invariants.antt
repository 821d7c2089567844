use Rattle.std.proofs.Common.{◌≡◌}
use Rattle.object_form.specs.Reading.{words_from}
use Rattle.object_form.proofs.sections.code_words.Given as goal

abbrev pub invariant-loop-k : goal.invariant-loop-k
invariant-loop-k l = l.words ≡ words_from l.text 20 l.k

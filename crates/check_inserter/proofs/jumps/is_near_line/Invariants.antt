use Rattle.insert_model.specs.Layout.{longest}
use Rattle.check_inserter.proofs.jumps.is_near_line.Given as goal

abbrev pub ghost-words_before : goal.ghost-words_before
ghost-words_before a = longest

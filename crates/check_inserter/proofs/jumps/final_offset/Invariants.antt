use Rattle.code_model.specs.Fields.{fields}
use Rattle.insert_model.specs.Layout.{sized}
use Rattle.check_inserter.proofs.jumps.final_offset.Given as goal

abbrev pub ghost-words_before : goal.ghost-words_before
ghost-words_before a = sized (fields a.o.now)

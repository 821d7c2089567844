use Rattle.code_model.specs.Fields.{fields}
use Rattle.insert_model.specs.Layout.{sized}
use Rattle.check_inserter.proofs.laying.lay_shorter.Given as goal

abbrev pub ghost-lay_units : goal.ghost-lay_units
ghost-lay_units a = sized (fields a.o.now)

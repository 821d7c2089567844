use Rattle.code_model.specs.Fields.{fields}
use Rattle.insert_model.specs.Layout.{final}
use Rattle.check_inserter.proofs.laying.lay_placed.Given as goal

abbrev pub ghost-lay_units : goal.ghost-lay_units
ghost-lay_units a = final (fields a.o.now)

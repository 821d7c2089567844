use Rattle.insert_model.specs.Layout.{longest}
use Rattle.check_inserter.proofs.laying.lay_final.Given as goal

abbrev pub ghost-lay_units : goal.ghost-lay_units
ghost-lay_units a = longest

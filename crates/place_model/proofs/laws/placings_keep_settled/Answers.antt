use Rattle.place_model.proofs.SettledLemmas.{placing_even, placing_settled}
use Rattle.place_model.proofs.laws.placings_keep_settled.Goals as goal

pub returns-clause-even : goal.returns-clause-even
returns-clause-even c = placing_even

pub returns-clause-settled : goal.returns-clause-settled
returns-clause-settled c = placing_settled

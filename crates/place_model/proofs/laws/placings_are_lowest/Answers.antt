use Rattle.place_model.proofs.PlacingLemmas.{placing_is, placing_inside, refusal_is}
use Rattle.place_model.proofs.laws.placings_are_lowest.Goals as goal

pub returns-clause-lowest : goal.returns-clause-lowest
returns-clause-lowest c = placing_is

pub returns-clause-inside : goal.returns-clause-inside
returns-clause-inside c = placing_inside

pub returns-clause-refused : goal.returns-clause-refused
returns-clause-refused c = refusal_is

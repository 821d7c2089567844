use Rattle.place_model.proofs.NumberLemmas.{least_free}
use Rattle.place_model.proofs.laws.numbers_are_least.Goals as goal

pub returns : goal.returns
returns c = least_free

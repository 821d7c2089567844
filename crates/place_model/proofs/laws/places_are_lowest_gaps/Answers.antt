use Rattle.place_model.proofs.PlaceLemmas.{place_right, place_only, gap_right, gap_only}
use Rattle.place_model.proofs.laws.places_are_lowest_gaps.Goals as goal

pub returns-clause-placed : goal.returns-clause-placed
returns-clause-placed c = λ pool rs need at. (place_right pool rs need at, place_only pool rs need at)

pub returns-clause-refused : goal.returns-clause-refused
returns-clause-refused c = λ pool rs need gap. (gap_right pool rs need gap, gap_only pool rs need gap)

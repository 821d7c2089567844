use Rattle.place_model.specs.Gaps.{gaps}
use Rattle.place_model.proofs.Members.{in_from, contains_from}
use Rattle.place_model.proofs.GapLemmas.{gap_in, in_gaps}
use Rattle.place_model.proofs.laws.gaps_are_maximal_runs.Goals as goal

pub returns : goal.returns
returns c = λ pool rs g. (λ h. gap_in pool rs g (in_from (gaps pool rs) g h), λ h. contains_from (gaps pool rs) g (in_gaps pool rs g h))

use Rattle.confinement_laws.proofs.Steps.{good-fetches}
use Rattle.confinement_laws.proofs.good_fetches.Goals as goal

pub returns : goal.returns
returns c = good-fetches

use Rattle.confinement_laws.proofs.AtEntry.{at-entry}
use Rattle.confinement_laws.proofs.good_above_is_at_entry.Goals as goal

pub returns : goal.returns
returns c = at-entry

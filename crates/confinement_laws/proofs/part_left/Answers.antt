use Rattle.confinement_laws.proofs.Keeping.{part-left}
use Rattle.confinement_laws.proofs.part_left.Goals as goal

pub returns : goal.returns
returns c = part-left c.part_stays.ensures

use Rattle.confinement_laws.proofs.Keeping.{limits-left}
use Rattle.confinement_laws.proofs.limits_left.Goals as goal

pub returns : goal.returns
returns c = limits-left c.part_stays.ensures c.word_stays.ensures

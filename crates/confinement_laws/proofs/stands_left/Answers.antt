use Rattle.confinement_laws.proofs.Keeping.{stands-left}
use Rattle.confinement_laws.proofs.stands_left.Goals as goal

pub returns : goal.returns
returns c = stands-left c.memory_stays.ensures c.part_stays.ensures c.word_stays.ensures

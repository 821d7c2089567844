use Rattle.confinement_laws.proofs.Keeping.{code-left}
use Rattle.confinement_laws.proofs.code_left.Goals as goal

pub returns : goal.returns
returns c = code-left c.part_stays.ensures c.word_stays.ensures

use Rattle.confinement_laws.proofs.Keeping.{code-kept}
use Rattle.confinement_laws.proofs.code_kept.Goals as goal

pub returns : goal.returns
returns c = code-kept c.word_stays.ensures

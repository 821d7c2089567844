use Rattle.gen_laws.proofs.Refusing.{no_fault}
use Rattle.gen_laws.proofs.never_refused.Goals as goal

pub returns : goal.returns
returns c = no_fault c.one_stands.ensures c.line_stands.ensures c.first_version.ensures

use Rattle.gen_laws.proofs.Refusing.{few_words}
use Rattle.gen_laws.proofs.stays_small.Goals as goal

pub returns : goal.returns
returns c = few_words c.line_stands.ensures c.first_version.ensures

use Rattle.code_laws.proofs.Starting.{starts_apart}
use Rattle.code_laws.proofs.starts_apart.Goals as goal

pub returns : goal.returns
returns c = starts_apart

use Rattle.code_laws.proofs.Landing.{before_interior}
use Rattle.code_laws.proofs.before_interior.Goals as goal

pub returns : goal.returns
returns c = before_interior

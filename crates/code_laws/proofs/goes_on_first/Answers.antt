use Rattle.code_laws.proofs.Landing.{goes_on_first}
use Rattle.code_laws.proofs.goes_on_first.Goals as goal

pub returns : goal.returns
returns c = goes_on_first

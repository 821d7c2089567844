use Rattle.code_laws.proofs.Starting.{next_start}
use Rattle.code_laws.proofs.next_start.Goals as goal

pub returns : goal.returns
returns c = next_start

use Rattle.code_laws.proofs.Landing.{one_stands}
use Rattle.code_laws.proofs.one_stands.Goals as goal

pub returns : goal.returns
returns c = one_stands

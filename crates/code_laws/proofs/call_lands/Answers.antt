use Rattle.code_laws.proofs.Landing.{call_lands}
use Rattle.code_laws.proofs.call_lands.Goals as goal

pub returns : goal.returns
returns c = call_lands

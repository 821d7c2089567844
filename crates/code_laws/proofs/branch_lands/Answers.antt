use Rattle.code_laws.proofs.Landing.{branch_lands}
use Rattle.code_laws.proofs.branch_lands.Goals as goal

pub returns : goal.returns
returns c = branch_lands

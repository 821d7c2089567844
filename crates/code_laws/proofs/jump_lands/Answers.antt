use Rattle.code_laws.proofs.Landing.{jump_lands}
use Rattle.code_laws.proofs.jump_lands.Goals as goal

pub returns : goal.returns
returns c = jump_lands

use Rattle.machine_laws.proofs.Branches.{jump-goes}
use Rattle.machine_laws.proofs.jump_goes.Goals as goal

pub returns : goal.returns
returns c = jump-goes

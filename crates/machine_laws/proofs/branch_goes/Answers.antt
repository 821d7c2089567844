use Rattle.machine_laws.proofs.Branches.{branch-goes}
use Rattle.machine_laws.proofs.branch_goes.Goals as goal

pub returns : goal.returns
returns c = branch-goes

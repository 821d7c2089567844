use Rattle.unit_laws.proofs.OwnUnits.{branch-alone}
use Rattle.unit_laws.proofs.branch_unit_ends.Goals as goal

pub returns : goal.returns
returns c = branch-alone

use Rattle.unit_laws.proofs.OwnUnits.{jump-alone}
use Rattle.unit_laws.proofs.jump_unit_ends.Goals as goal

pub returns : goal.returns
returns c = jump-alone

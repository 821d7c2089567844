use Rattle.unit_laws.proofs.Guards.{growth-ends}
use Rattle.unit_laws.proofs.growth_guard_ends.Goals as goal

pub returns : goal.returns
returns c = growth-ends

use Rattle.unit_laws.proofs.Guards.{pop-ends}
use Rattle.unit_laws.proofs.pop_guard_ends.Goals as goal

pub returns : goal.returns
returns c = pop-ends

use Rattle.unit_laws.proofs.Guards.{sp-ends}
use Rattle.unit_laws.proofs.sp_guard_ends.Goals as goal

pub returns : goal.returns
returns c = sp-ends

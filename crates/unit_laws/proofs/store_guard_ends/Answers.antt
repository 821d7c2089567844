use Rattle.unit_laws.proofs.Guards.{store-ends}
use Rattle.unit_laws.proofs.store_guard_ends.Goals as goal

pub returns : goal.returns
returns c = store-ends

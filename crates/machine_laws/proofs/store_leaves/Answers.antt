use Rattle.machine_laws.proofs.Guarded.{store-leaves}
use Rattle.machine_laws.proofs.store_leaves.Goals as goal

pub returns : goal.returns
returns c = store-leaves

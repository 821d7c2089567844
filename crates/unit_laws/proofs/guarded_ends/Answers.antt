use Rattle.unit_laws.proofs.Guarded.{guarded}
use Rattle.unit_laws.proofs.guarded_ends.Goals as goal

pub returns : goal.returns
returns c = guarded

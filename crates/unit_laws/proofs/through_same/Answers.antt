use Rattle.unit_laws.proofs.Guarded.{through}
use Rattle.unit_laws.proofs.through_same.Goals as goal

pub returns : goal.returns
returns c = through

use Rattle.unit_laws.proofs.Running.{follow}
use Rattle.unit_laws.proofs.unit_follows.Goals as goal

pub returns : goal.returns
returns c = follow

use Rattle.placed_unit_laws.proofs.Pushing.{pushed_law}
use Rattle.placed_unit_laws.proofs.call_pushes.Goals as goal

pub returns : goal.returns
returns c = pushed_law c.unit_stands.ensures

use Rattle.code_laws.proofs.Landing.{guarded_leaves}
use Rattle.code_laws.proofs.guarded_leaves.Goals as goal

pub returns : goal.returns
returns c = guarded_leaves

use Rattle.code_laws.proofs.Landing.{guarded_free}
use Rattle.code_laws.proofs.guarded_free.Goals as goal

pub returns : goal.returns
returns c = guarded_free

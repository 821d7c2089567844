use Rattle.code_laws.proofs.Landing.{guarded_goes_on}
use Rattle.code_laws.proofs.guarded_goes_on.Goals as goal

pub returns : goal.returns
returns c = guarded_goes_on

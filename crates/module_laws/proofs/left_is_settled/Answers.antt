use Rattle.module_laws.proofs.CallRules.{left_stays_settled}
use Rattle.module_laws.proofs.left_is_settled.Goals as goal

pub returns : goal.returns
returns c = left_stays_settled

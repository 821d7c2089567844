use Rattle.module_laws.proofs.CallRules.{entered_stays_settled}
use Rattle.module_laws.proofs.entered_is_settled.Goals as goal

pub returns : goal.returns
returns c = entered_stays_settled

use Rattle.module_laws.proofs.EndRules.{module_ended_stays_settled}
use Rattle.module_laws.proofs.ended_module_is_settled.Goals as goal

pub returns : goal.returns
returns c = module_ended_stays_settled

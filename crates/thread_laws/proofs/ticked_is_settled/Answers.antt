use Rattle.thread_laws.proofs.WakeRules.{ticked_stays_settled}
use Rattle.thread_laws.proofs.ticked_is_settled.Goals as goal

pub returns : goal.returns
returns c = ticked_stays_settled

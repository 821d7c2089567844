use Rattle.thread_laws.proofs.MovingRules.{saved_stays_settled}
use Rattle.thread_laws.proofs.saved_is_settled.Goals as goal

pub returns : goal.returns
returns c = saved_stays_settled

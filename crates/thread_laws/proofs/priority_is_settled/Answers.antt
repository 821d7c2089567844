use Rattle.thread_laws.proofs.MovingRules.{priority_stays_settled}
use Rattle.thread_laws.proofs.priority_is_settled.Goals as goal

pub returns : goal.returns
returns c = priority_stays_settled

use Rattle.thread_laws.proofs.ReadyRules.{front_stays_settled}
use Rattle.thread_laws.proofs.front_is_settled.Goals as goal

pub returns : goal.returns
returns c = front_stays_settled

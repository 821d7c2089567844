use Rattle.thread_laws.proofs.ReadyRules.{dispatched_stays_settled}
use Rattle.thread_laws.proofs.dispatched_is_settled.Goals as goal

pub returns : goal.returns
returns c = dispatched_stays_settled

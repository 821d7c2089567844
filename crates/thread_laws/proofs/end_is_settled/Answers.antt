use Rattle.thread_laws.proofs.ReadyRules.{end_stays_settled}
use Rattle.thread_laws.proofs.end_is_settled.Goals as goal

pub returns : goal.returns
returns c = end_stays_settled

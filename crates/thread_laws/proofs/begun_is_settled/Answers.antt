use Rattle.thread_laws.proofs.ReadyRules.{begun_stays_settled}
use Rattle.thread_laws.proofs.begun_is_settled.Goals as goal

pub returns : goal.returns
returns c = begun_stays_settled

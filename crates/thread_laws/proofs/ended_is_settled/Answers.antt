use Rattle.thread_laws.proofs.EndedLemmas.{ended_settled}
use Rattle.thread_laws.proofs.ended_is_settled.Goals as goal

pub returns : goal.returns
returns c = ended_settled

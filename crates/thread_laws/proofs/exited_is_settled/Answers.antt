use Rattle.thread_laws.proofs.ExitedLemmas.{exited_settled}
use Rattle.thread_laws.proofs.exited_is_settled.Goals as goal

pub returns : goal.returns
returns c = exited_settled

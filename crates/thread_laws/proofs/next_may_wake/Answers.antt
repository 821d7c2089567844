use Rattle.thread_laws.proofs.WakingLemmas.{next_unlisted}
use Rattle.thread_laws.proofs.next_may_wake.Goals as goal

pub returns : goal.returns
returns c = next_unlisted

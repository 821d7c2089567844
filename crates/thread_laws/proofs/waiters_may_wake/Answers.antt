use Rattle.thread_laws.proofs.WhoWakes.{waiters_unlisted}
use Rattle.thread_laws.proofs.waiters_may_wake.Goals as goal

pub returns : goal.returns
returns c = waiters_unlisted

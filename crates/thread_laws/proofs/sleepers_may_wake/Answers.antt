use Rattle.thread_laws.proofs.WhoWakes.{sleepers_unlisted}
use Rattle.thread_laws.proofs.sleepers_may_wake.Goals as goal

pub returns : goal.returns
returns c = sleepers_unlisted

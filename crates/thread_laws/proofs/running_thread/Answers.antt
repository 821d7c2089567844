use Rattle.thread_laws.proofs.Spots.{running_is}
use Rattle.thread_laws.proofs.running_thread.Goals as goal

pub returns : goal.returns
returns c = running_is

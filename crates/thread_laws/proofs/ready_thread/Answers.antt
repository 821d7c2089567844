use Rattle.thread_laws.proofs.Spots.{ready_is}
use Rattle.thread_laws.proofs.ready_thread.Goals as goal

pub returns : goal.returns
returns c = ready_is

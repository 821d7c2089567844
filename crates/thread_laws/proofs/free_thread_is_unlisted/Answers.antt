use Rattle.thread_laws.proofs.Spots.{free_is}
use Rattle.thread_laws.proofs.free_thread_is_unlisted.Goals as goal

pub returns : goal.returns
returns c = free_is

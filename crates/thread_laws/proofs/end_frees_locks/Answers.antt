use Rattle.thread_laws.proofs.EndedLocks.{end_frees_locks_rule}
use Rattle.thread_laws.proofs.end_frees_locks.Goals as goal

pub returns : goal.returns
returns c = end_frees_locks_rule

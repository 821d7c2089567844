use Rattle.thread_laws.proofs.WhoWakes.{woken_line_is}
use Rattle.thread_laws.proofs.line_wakes_its_waiters.Goals as goal

pub returns : goal.returns
returns c = woken_line_is

use Rattle.thread_laws.proofs.WhoWakes.{ticked_is}
use Rattle.thread_laws.proofs.tick_wakes_the_due.Goals as goal

pub returns : goal.returns
returns c = ticked_is

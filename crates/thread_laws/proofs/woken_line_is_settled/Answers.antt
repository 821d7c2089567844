use Rattle.thread_laws.proofs.WakeRules.{woken_line_stays_settled}
use Rattle.thread_laws.proofs.woken_line_is_settled.Goals as goal

pub returns : goal.returns
returns c = woken_line_stays_settled

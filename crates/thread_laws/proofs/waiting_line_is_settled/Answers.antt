use Rattle.thread_laws.proofs.WaitRules.{waiting_line_stays_settled}
use Rattle.thread_laws.proofs.waiting_line_is_settled.Goals as goal

pub returns : goal.returns
returns c = waiting_line_stays_settled

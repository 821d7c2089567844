use Rattle.thread_laws.proofs.WaitRules.{slept_stays_settled}
use Rattle.thread_laws.proofs.slept_is_settled.Goals as goal

pub returns : goal.returns
returns c = slept_stays_settled

use Rattle.confinement_laws.proofs.InStack.{stack-stays}
use Rattle.confinement_laws.proofs.stack_stays.Goals as goal

pub returns : goal.returns
returns c = stack-stays c.code_laws.ensures c.push_stays.ensures c.call_stays.ensures

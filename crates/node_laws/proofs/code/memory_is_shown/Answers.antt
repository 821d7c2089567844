use Rattle.node_laws.proofs.Showing.{shown, settled, loading-settled}
use Rattle.node_laws.proofs.code.memory_is_shown.Goals as goal

pub returns-clause-shown : goal.returns-clause-shown
returns-clause-shown c = shown

pub returns-clause-settled : goal.returns-clause-settled
returns-clause-settled c = settled

pub returns-clause-loading : goal.returns-clause-loading
returns-clause-loading c = loading-settled

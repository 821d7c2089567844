use Rattle.node_laws.proofs.Behind.{raise, none-raised}
use Rattle.node_laws.proofs.code.raised_is_shown.Goals as goal

pub returns-clause-raise : goal.returns-clause-raise
returns-clause-raise c = raise

pub returns-clause-none : goal.returns-clause-none
returns-clause-none c = none-raised

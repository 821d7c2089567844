use Rattle.node_laws.proofs.Beginning.{beginning}
use Rattle.node_laws.proofs.boot.threads_begin.Goals as goal

pub returns : goal.returns
returns c = beginning

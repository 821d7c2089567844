use Rattle.node_laws.proofs.Behind.{acceptance-stands, accepted-writes}
use Rattle.node_laws.proofs.code.acceptance_stands.Goals as goal

pub returns-clause-stands : goal.returns-clause-stands
returns-clause-stands c = acceptance-stands

pub returns-clause-writes : goal.returns-clause-writes
returns-clause-writes c = accepted-writes

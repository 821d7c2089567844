use Rattle.node_laws.proofs.Behind.{instruction-stands, done-writes}
use Rattle.node_laws.proofs.code.instruction_stands.Goals as goal

pub returns-clause-stands : goal.returns-clause-stands
returns-clause-stands c = instruction-stands

pub returns-clause-writes : goal.returns-clause-writes
returns-clause-writes c = done-writes

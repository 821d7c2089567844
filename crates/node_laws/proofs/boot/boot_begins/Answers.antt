use Rattle.node_laws.proofs.BootParts.{boot-begins, boot-refuses}
use Rattle.node_laws.proofs.boot.boot_begins.Goals as goal

pub returns-clause-begins : goal.returns-clause-begins
returns-clause-begins c = boot-begins

pub returns-clause-refuses : goal.returns-clause-refuses
returns-clause-refuses c = boot-refuses

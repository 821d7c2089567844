use Rattle.node_laws.proofs.BootParts.{boot-stands}
use Rattle.node_laws.proofs.boot.boot_stands.Goals as goal

pub returns : goal.returns
returns c = boot-stands

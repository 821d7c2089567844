use Rattle.machine_laws.proofs.Memory.{part-stays}
use Rattle.machine_laws.proofs.part_stays.Goals as goal

pub returns : goal.returns
returns c = part-stays

use Rattle.machine_laws.proofs.Memory.{memory-stays}
use Rattle.machine_laws.proofs.memory_stays.Goals as goal

pub returns : goal.returns
returns c = memory-stays

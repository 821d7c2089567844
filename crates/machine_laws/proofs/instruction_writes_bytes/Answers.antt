use Rattle.machine_laws.proofs.Memory.{does-small}
use Rattle.machine_laws.proofs.instruction_writes_bytes.Goals as goal

pub returns : goal.returns
returns c = does-small

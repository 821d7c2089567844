use Rattle.machine_laws.proofs.Plain.{plain-passes}
use Rattle.machine_laws.proofs.plain_passes.Goals as goal

pub returns : goal.returns
returns c = plain-passes

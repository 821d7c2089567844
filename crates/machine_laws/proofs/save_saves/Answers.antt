use Rattle.machine_laws.proofs.Branches.{save-saves}
use Rattle.machine_laws.proofs.save_saves.Goals as goal

pub returns : goal.returns
returns c = save-saves

use Rattle.machine_laws.proofs.Guarded.{sp-stays}
use Rattle.machine_laws.proofs.sp_stays.Goals as goal

pub returns : goal.returns
returns c = sp-stays

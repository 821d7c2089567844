use Rattle.unit_laws.proofs.SpUnits.{set-sp-unit}
use Rattle.unit_laws.proofs.set_sp_unit_ends.Goals as goal

pub returns : goal.returns
returns c = set-sp-unit

use Rattle.unit_laws.proofs.OwnUnits.{short-jump}
use Rattle.unit_laws.proofs.short_jump_unit_ends.Goals as goal

pub returns : goal.returns
returns c = short-jump

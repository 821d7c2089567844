use Rattle.unit_laws.proofs.AtR4.{at-r4}
use Rattle.unit_laws.proofs.at_r4_same.Goals as goal

pub returns : goal.returns
returns c = at-r4

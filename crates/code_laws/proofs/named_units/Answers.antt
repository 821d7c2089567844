use Rattle.code_laws.proofs.Landing.{named_units}
use Rattle.code_laws.proofs.named_units.Goals as goal

pub returns : goal.returns
returns c = named_units

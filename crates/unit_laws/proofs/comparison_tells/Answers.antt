use Rattle.unit_laws.proofs.Flags.{compared-tells}
use Rattle.unit_laws.proofs.comparison_tells.Goals as goal

pub returns : goal.returns
returns c = compared-tells

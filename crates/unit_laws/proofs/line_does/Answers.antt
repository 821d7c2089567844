use Rattle.unit_laws.proofs.Lines.{line-does}
use Rattle.unit_laws.proofs.line_does.Goals as goal

pub returns : goal.returns
returns c = line-does

use Rattle.code_laws.proofs.Inside.{guards_apart}
use Rattle.code_laws.proofs.guards_apart.Goals as goal

pub returns : goal.returns
returns c = guards_apart

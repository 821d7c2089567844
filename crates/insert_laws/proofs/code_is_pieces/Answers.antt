use Rattle.insert_laws.proofs.LineUnits.{code_pieces}
use Rattle.insert_laws.proofs.code_is_pieces.Goals as goal

pub returns : goal.returns
returns c = code_pieces

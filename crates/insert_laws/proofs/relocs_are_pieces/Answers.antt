use Rattle.insert_laws.proofs.Relocated.{relocs_stand}
use Rattle.insert_laws.proofs.relocs_are_pieces.Goals as goal

pub returns : goal.returns
returns c = relocs_stand

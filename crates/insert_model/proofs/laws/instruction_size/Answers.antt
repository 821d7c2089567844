use Rattle.insert_model.proofs.Lines.{size_law}
use Rattle.insert_model.proofs.laws.instruction_size.Goals as goal

pub returns : goal.returns
returns c = size_law

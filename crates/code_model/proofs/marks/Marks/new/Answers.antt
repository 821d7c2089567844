use Rattle.code_model.proofs.Bits.{none_has}
use Rattle.code_model.proofs.marks.Marks.new.Goals as goal

pub returns-clause-empty : goal.returns-clause-empty
returns-clause-empty c = none_has 1024

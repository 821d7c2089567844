use Rattle.insert_model.proofs.Lines.{line_law}
use Rattle.insert_model.proofs.laws.line_stands.Goals as goal

pub returns : goal.returns
returns c = line_law c.one_instruction.ensures c.first_word_decides.ensures c.reading_law.ensures

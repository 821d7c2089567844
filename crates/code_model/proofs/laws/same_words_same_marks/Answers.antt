use Rattle.code_model.proofs.SameMarks.{same_marks}
use Rattle.code_model.proofs.laws.same_words_same_marks.Goals as goal

pub returns : goal.returns
returns c = same_marks

use Rattle.check_inserter.proofs.Answering.{one_answer}
use Rattle.check_inserter.proofs.laws.one_answer.Goals as goal

pub returns : goal.returns
returns c o a b = one_answer o c.one_verdict.ensures c.same_fields_same_object.ensures a b

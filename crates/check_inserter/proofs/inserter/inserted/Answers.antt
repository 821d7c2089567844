use Rattle.check_inserter.proofs.Answering.{is_fault}
use Rattle.check_inserter.proofs.inserter.inserted.Goals as goal

pub returns-in-Some : goal.returns-in-Some
returns-in-Some c = is_fault c.args.o.now c.in-Some.fault c.in-Ok.ensures.spelled c.in-Some.ensures

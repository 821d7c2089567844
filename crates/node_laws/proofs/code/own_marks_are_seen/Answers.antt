use Rattle.node_laws.proofs.OwnMarks.{own-mark}
use Rattle.node_laws.proofs.code.own_marks_are_seen.Goals as goal

pub returns : goal.returns
returns c = own-mark

use Rattle.insert_laws.proofs.Deciding.{starts_known}
use Rattle.insert_laws.proofs.starts_decided.Goals as goal

pub returns : goal.returns
returns c = starts_known c.next_start.ensures c.starts_apart.ensures

use Rattle.insert_laws.proofs.Accepting.{accepts}
use Rattle.insert_laws.proofs.verdict_accepts.Goals as goal

pub returns : goal.returns
returns c = accepts c.nothing_refused.ensures

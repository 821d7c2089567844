use Rattle.node_laws.proofs.ShowingFirst.{first-seen}
use Rattle.node_laws.proofs.boot.first_is_seen.Goals as goal

pub returns : goal.returns
returns c = first-seen

use Rattle.node_laws.proofs.FirstSystem.{first-loading}
use Rattle.node_laws.proofs.first_is_loading.Goals as goal

pub returns : goal.returns
returns c = first-loading

use Rattle.node_laws.proofs.Joining.{each-turn}
use Rattle.node_laws.proofs.each_turn_is_safe.Goals as goal

pub returns : goal.returns
returns c = each-turn

use Rattle.retos_node.proofs.TurnLemmas.{restored}
use Rattle.retos_node.proofs.turns.save_zero.Goals as goal

pub returns-clause-same : goal.returns-clause-same
returns-clause-same c = restored c.args.r.now c.set.new.self c.set-2.new.self 0 c.get-argument.result c.set.ensures c.get-argument.ensures c.set-2.ensures

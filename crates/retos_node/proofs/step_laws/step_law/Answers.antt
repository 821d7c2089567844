use Rattle.retos_node.proofs.step_laws.step_law.Goals as goal

pub returns : goal.returns
returns c = c.step_stands.ensures c.premises.ensures

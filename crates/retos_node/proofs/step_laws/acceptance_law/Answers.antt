use Rattle.retos_node.proofs.step_laws.acceptance_law.Goals as goal

pub returns-clause-stands : goal.returns-clause-stands
returns-clause-stands c = c.acceptance_stands.ensures.stands c.premises.ensures

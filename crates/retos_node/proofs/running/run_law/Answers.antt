use Rattle.retos_node.proofs.running.run_law.Goals as goal

pub returns : goal.returns
returns c = λ t. c.runs_are_sound.ensures.run t (c.next_law.ensures t)

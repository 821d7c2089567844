use Rattle.retos_node.proofs.laws.booted_runs_are_sound.Goals as goal

pub returns : goal.returns
returns c t = c.runs_are_sound.ensures.booted t c.booted_is_sound.ensures (c.next_law.ensures t)

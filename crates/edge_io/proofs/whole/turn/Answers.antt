use Rattle.edge_io.proofs.Progress.{begins_more}
use Rattle.edge_io.proofs.whole.turn.Goals as goal

pub returns-in-Ok-extend_from_slice-clause-begins :
    goal.returns-in-Ok-extend_from_slice-clause-begins
returns-in-Ok-extend_from_slice-clause-begins g c =
    begins_more _ _ _ _ _ _ _ c.requires.begins c.in-Ok.ensures.gives c.len-at.ensures c.in-Ok-extend_from_slice.ensures.extended

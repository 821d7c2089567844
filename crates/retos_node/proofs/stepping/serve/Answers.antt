use Rattle.retos_node.proofs.Standing.{gives_routine}
use Rattle.retos_node.proofs.stepping.serve.Goals as goal

pub returns : goal.returns
returns c s h =
    gives_routine c.steps_are_safe.ensures c.turn_stands.ensures c.own_marks_are_seen.ensures s c.args.moment.pick c.args.line
    c.args.m.now c.vector-record.new.m c.args.r.now c.vector-record.new.r c.args.moment.step c.vector-record.result h
    record { bytes = c.is_flat.ensures.size; small = c.is_flat.ensures.small } c.requires.case c.vector-record.ensures

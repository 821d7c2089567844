use Rattle.retos_node.proofs.Standing.{gives_over}
use Rattle.retos_node.proofs.stepping.over_budget.Goals as goal

pub returns : goal.returns
returns c s h =
    gives_over c.steps_are_safe.ensures c.turn_stands.ensures c.own_marks_are_seen.ensures s c.args.moment.pick c.args.m.now
    c.budget_fault-record.new.m c.args.r.now c.budget_fault-record.new.r c.args.moment.step c.budget_fault-record.result h
    record { bytes = c.is_flat.ensures.size; small = c.is_flat.ensures.small } c.requires.case c.budget_fault-record.ensures

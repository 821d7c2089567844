use Rattle.std.proofs.Common.{◌∙◌}
use Rattle.script_schedule.proofs.Scheduling.{due_raised, due_pick}
use Rattle.script_schedule.proofs.schedule.Schedule.at_due.Goals as goal

pub returns-clause-raised : goal.returns-clause-raised
returns-clause-raised c = due_raised c.args.script.now c.args.step c.at_lines-ats.result c.every_lines-everys.result c.at_lines-ats.ensures c.every_lines-everys.ensures

pub returns-clause-pick : goal.returns-clause-pick
returns-clause-pick c =
    c.or.ensures ∙ due_pick c.args.script.now c.args.step c.at_lines-ats.result c.args.drawn c.at_lines-ats.ensures c.requires.drawn

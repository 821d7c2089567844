use Rattle.std.proofs.Common.{◌∙◌, ap, ltb}
use Rattle.script_schedule.proofs.Scheduling.{later_is}
use Rattle.script_schedule.proofs.schedule.Schedule.has_later.Goals as goal

pub returns : goal.returns
returns c = ap (λ n. ltb c.args.self.now.place n) c.len.ensures ∙ later_is c.args.script.now c.args.made c.args.self.now c.requires

use Rattle.std.proofs.Common.{◌+◌, refl, arith}
use Rattle.script_schedule.proofs.Scheduling.{idle_raised, idle_pick}
use Rattle.script_schedule.proofs.schedule.Schedule.next.Goals as goal

pub returns-then-step-self-clause-raised : goal.returns-then-step-self-clause-raised
returns-then-step-self-clause-raised c =
    idle_raised c.args.script.now c.args.made (c.args.made + 1) c.args.self.now c.requires.ready refl (omega (arith, c.if-step-self.true, c.draw_next-drawn.ensures.same.1))

pub returns-then-step-self-clause-pick : goal.returns-then-step-self-clause-pick
returns-then-step-self-clause-pick c =
    idle_pick c.args.script.now c.args.made (c.args.made + 1) c.args.self.now c.draw_next-drawn.result c.requires.ready refl
    (omega (arith, c.if-step-self.true, c.draw_next-drawn.ensures.same.1))
    (c.draw_next-drawn.ensures.drawn c.args.made c.requires.ready.drawn).1

use Rattle.std.proofs.Common.{◌∙◌, refl, sym, arith}
use Rattle.script_schedule.proofs.Scheduling.{taken_start, taken_more, taken_end, ahead_here, ahead_none, kind_at, step_at}
use Rattle.script_schedule.proofs.schedule.at_lines.Goals as goal

pub loop-lines-init : goal.loop-lines-init
loop-lines-init c = record {
  taken = taken_start _ _ _ refl refl c.requires.within c.requires.step.0 c.requires.passed;
  ahead = c.requires.ahead;
  due = refl;
}

pub returns-in_default : goal.returns-in_default
returns-in_default c =
    taken_end c.args.script.now.ats c.args.step c.loop-lines.lines c.loop-lines.lines c.loop-lines.invariant.taken refl refl refl
    (ahead_none c.args.script.now.ats c.loop-lines.lines.place c.loop-lines.lines.due (sym c.get.ensures ∙ c.in_default.is))
    (omega (arith, c.loop-lines.invariant.due))

pub returns-then-at-step : goal.returns-then-at-step
returns-then-at-step c =
    taken_end c.args.script.now.ats c.args.step c.loop-lines.lines (record c.loop-lines.lines { due = c.in-Some.at.step })
    c.loop-lines.invariant.taken refl refl refl
    (ahead_here c.args.script.now.ats c.loop-lines.lines.place c.in-Some.at c.requires.script.rising (sym c.in-Some.ensures))
    (omega (arith, c.if-at-step.true))

pub take-requires-clause-kind : goal.take-requires-clause-kind
take-requires-clause-kind c =
    kind_at c.args.script.now.ats c.loop-lines.lines.place c.in-Some.at c.requires.script.ats (sym c.in-Some.ensures)

pub loop-lines-preserved : goal.loop-lines-preserved
loop-lines-preserved c = record {
  taken = taken_more _ _ c.loop-lines.lines _ c.in-Some.at c.loop-lines.invariant.taken (
      record {
        found = sym c.in-Some.ensures;
        here = step_at c.args.script.now.ats c.loop-lines.lines.place c.args.step c.in-Some.at c.loop-lines.invariant.ahead (sym c.in-Some.ensures) (omega (arith, c.if-at-step.false));
        raised = c.take.ensures.raised;
        pick = c.take.ensures.pick;
        place = c.take.ensures.place.0;
      });
  ahead = λ i d l w. c.loop-lines.invariant.ahead i d (omega (arith, c.take.ensures.place.0)) w;
  due = c.take.ensures.place.1 ∙ c.loop-lines.invariant.due;
}

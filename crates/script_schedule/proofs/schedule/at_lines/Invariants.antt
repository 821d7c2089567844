use Rattle.std.proofs.Common.{◌≡◌, ◌-◌, length}
use Rattle.script_schedule.specs.Readiness.{AreTaken, AreAhead}
use Rattle.script_schedule.proofs.schedule.at_lines.Given as goal

abbrev pub invariant-loop-lines : goal.invariant-loop-lines
invariant-loop-lines l = record {
  taken : AreTaken l.script.ats l.step l.lines;
  ahead : AreAhead l.script.ats l.lines.place l.step;
  due : l.lines.due ≡ 4294967295;
}

abbrev pub decreases-loop-lines : goal.decreases-loop-lines
decreases-loop-lines l = length l.script.ats - l.lines.place

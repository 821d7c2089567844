use Rattle.std.proofs.Common.{take}
use Rattle.script_schedule.specs.Readiness.{AreEveryLines}
use Rattle.script_schedule.proofs.schedule.every_lines.Given as goal

abbrev pub invariant-loop-every : goal.invariant-loop-every
invariant-loop-every l = AreEveryLines (take l.every-index l.every-items) l.step l.lines

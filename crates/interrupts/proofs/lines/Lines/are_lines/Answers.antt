use Rattle.std.proofs.Common.{ap, ◌∙◌}
use Rattle.std.specs.FinSet as set
use Rattle.interrupts.specs.LineSets.{LineSet}
use Rattle.interrupts.proofs.Members.{lines_are_low}
use Rattle.interrupts.proofs.lines.Lines.are_lines.Goals as goal

pub returns : goal.returns
returns c = λ n h. lines_are_low c.self.inside.word n (ap (λ (s : LineSet). set.contains s n) c.self.view_is ∙ h)

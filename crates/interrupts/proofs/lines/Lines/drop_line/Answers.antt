use Rattle.std.proofs.Common.{sym, ap, ◌∙◌}
use Rattle.std.specs.FinSet as set
use Rattle.interrupts.specs.LineSets.{LineSet}
use Rattle.interrupts.proofs.Members.{lines_of-clear, lines_of-no_line}
use Rattle.interrupts.proofs.lines.Lines.drop_line.Goals as goal

pub returns-then-n-lt-LINES-clause-removed : goal.returns-then-n-lt-LINES-clause-removed
returns-then-n-lt-LINES-clause-removed c =
    lines_of-clear c.self.inside.word c.args.n c.if-n-lt-LINES.true ∙ ap (λ (s : LineSet). set.remove s c.args.n) c.self.view_is

pub returns-else-n-lt-LINES-clause-removed : goal.returns-else-n-lt-LINES-clause-removed
returns-else-n-lt-LINES-clause-removed c =
    sym (ap (λ (s : LineSet). set.remove s c.args.n) (sym c.self.view_is) ∙ (lines_of-no_line c.self.inside.word c.args.n c.if-n-lt-LINES.false ∙ c.self.view_is))

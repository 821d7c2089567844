use Rattle.interrupts.proofs.Members.{lines_of-low}
use Rattle.interrupts.proofs.lines.Lines.from_word.Goals as goal

pub returns : goal.returns
returns c = lines_of-low c.args.w

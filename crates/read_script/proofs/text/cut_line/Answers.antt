use Rattle.read_script.proofs.Cutting.{line_cut}
use Rattle.read_script.proofs.text.cut_line.Goals as goal

pub returns-then-end-text-clause-lines : goal.returns-then-end-text-clause-lines
returns-then-end-text-clause-lines c = line_cut c.args.text.now c.strip_return.result.now c.line_end-end.result c.line_end-end.ensures.place c.if-end-text.true c.strip_return.ensures

use Rattle.source_faults.proofs.Faulty.{no_lines, lines_step, lines_end}
use Rattle.source_faults.proofs.faults.first_of_lines.Goals as goal

pub loop-line-init : goal.loop-line-init
loop-line-init c = no_lines c.args.o.now

pub loop-line-preserved : goal.loop-line-preserved
loop-line-preserved c = lines_step c.args.o.now c.args.lines.now c.loop-line.line-index _ _ _ _ c.loop-line-test.true c.loop-line.invariant c.line_fault.ensures c.lesser-first.ensures

pub returns : goal.returns
returns c = lines_end c.args.o.now c.args.lines.now c.loop-line.line-index _ c.loop-line-test.false c.loop-line.invariant

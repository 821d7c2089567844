use Rattle.code_model.specs.Fields.{fields}
use Rattle.check_inserter.specs.Cells.{as_cell}
use Rattle.check_inserter.proofs.Runs.{IsRunTo}
use Rattle.check_inserter.proofs.groups.run_behind.Given as goal

abbrev pub invariant-loop-line : goal.invariant-loop-line
invariant-loop-line l = IsRunTo (fields l.o) (as_cell l.cell) l.behind l.line-index l.run

use Rattle.std.proofs.Common.{refl}
use Rattle.code_model.specs.Fields.{fields}
use Rattle.check_inserter.specs.Cells.{as_cell}
use Rattle.check_inserter.proofs.Runs.{run_begins, run_breaks, run_more, run_ends}
use Rattle.check_inserter.proofs.groups.run_behind.Goals as goal

pub loop-line-init : goal.loop-line-init
loop-line-init c = run_begins (fields c.args.o.now) (as_cell c.args.cell.now) c.args.behind.now _ refl refl

pub returns-in-None-clause-are : goal.returns-in-None-clause-are
returns-in-None-clause-are c =
    run_breaks (fields c.args.o.now) (as_cell c.args.cell.now) c.args.behind.now c.loop-line.line-index _ _ _ c.loop-line.invariant c.min.ensures c.loop-line-test.true c.in-None.ensures

pub loop-line-preserved : goal.loop-line-preserved
loop-line-preserved c =
    run_more (fields c.args.o.now) (as_cell c.args.cell.now) c.args.behind.now c.loop-line.line-index _ _ c.in-Some.distance c.loop-line.run _ c.loop-line.invariant c.min.ensures c.loop-line-test.true c.in-Some.ensures refl c.max.ensures

pub returns-clause-are : goal.returns-clause-are
returns-clause-are c = run_ends (fields c.args.o.now) (as_cell c.args.cell.now) c.args.behind.now c.loop-line.line-index _ _ c.loop-line.invariant c.min.ensures c.loop-line-test.false

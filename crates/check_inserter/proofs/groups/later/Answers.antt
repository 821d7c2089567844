use Rattle.std.proofs.Common.{arith}
use Rattle.code_model.specs.Fields.{fields}
use Rattle.check_inserter.proofs.Grouping.{later_first, later_none, later_some}
use Rattle.check_inserter.proofs.groups.later.Goals as goal

pub returns-then-o-lt2-clause-is : goal.returns-then-o-lt2-clause-is
returns-then-o-lt2-clause-is c = later_first (fields c.args.o.now) c.args.line.now c.args.behind.now (omega arith)

pub returns-in-None-clause-is : goal.returns-in-None-clause-is
returns-in-None-clause-is c = later_none (fields c.args.o.now) c.args.line.now c.args.behind.now c.in-None.ensures

pub returns-in-Some-clause-is : goal.returns-in-Some-clause-is
returns-in-Some-clause-is c = later_some (fields c.args.o.now) c.args.line.now c.args.behind.now _ _ _ (omega arith) c.in-Some.ensures.0 c.run_behind.ensures.are c.kept.ensures

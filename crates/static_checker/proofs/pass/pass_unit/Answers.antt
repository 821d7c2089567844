use Rattle.static_checker.proofs.PassLemmas.{units_first}
use Rattle.static_checker.proofs.pass.pass_unit.Goals as goal

pub pass_run-requires-clause-units : goal.pass_run-requires-clause-units
pass_run-requires-clause-units c =
    units_first c.args.o.now c.args.pass.now.cursor.at c.args.unit c.args.pass.now.units c.mark.new.marks
    c.requires.unit c.requires.passed.units c.mark.ensures.marked c.mark.ensures.others

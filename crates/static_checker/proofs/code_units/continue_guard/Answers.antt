use Rattle.std.proofs.Common.{Some, arith, sym}
use Rattle.static_checker.proofs.Guarding.{not_true}
use Rattle.static_checker.proofs.UnitLemmas.{one_more_word, breaks_off}
use Rattle.static_checker.proofs.code_units.continue_guard.Goals as goal

pub unguarded_unit-requires-clause-none : goal.unguarded_unit-requires-clause-none
unguarded_unit-requires-clause-none c = breaks_off c.args.o.now c.args.cursor.at c.args.begun c.in-Some.slot c.requires.begun (sym c.in-Some.ensures) (λ h. not_true _ c.if-fits.false (c.fits.ensures.1 h))

pub returns-then-fits : goal.returns-then-fits
returns-then-fits c = (one_more_word c.args.o.now c.args.cursor.at c.args.begun c.in-Some.slot c.requires.begun (sym c.in-Some.ensures) (c.fits.ensures.0 c.if-fits.true), omega arith)

pub returns-else-fits : goal.returns-else-fits
returns-else-fits c = c.unguarded_unit.ensures (Some c.args.begun)

use Rattle.std.proofs.Common.{arith}
use Rattle.static_checker.proofs.PassLemmas.{passed_begins, whole, less_by_word, less_by_unit}
use Rattle.static_checker.proofs.pass.pass_over.Goals as goal

pub loop-pass-init : goal.loop-pass-init
loop-pass-init c = passed_begins c.args.o.now _ _ _ (c.at_start-cursor.ensures.is c.args.o.now.relocs) c.at_start-cursor.ensures.at c.new-units.ensures.empty c.new-transfers.ensures.empty

pub loop-pass-smaller-in-Word : goal.loop-pass-smaller-in-Word
loop-pass-smaller-in-Word c = less_by_word c.args.o.now c.loop-pass.pass c.in-Word.begun (omega arith) c.in-Word.ensures.0 c.in-Word.ensures.1

pub loop-pass-smaller : goal.loop-pass-smaller
loop-pass-smaller c = less_by_unit c.args.o.now c.loop-pass.pass c.pass_unit.new.pass (omega arith) c.loop-pass.invariant.begun c.pass_unit.ensures.further c.pass_unit.ensures.free

pub returns : goal.returns
returns c = whole c.args.o.now _ c.loop-pass.invariant (omega arith)

use Rattle.std.proofs.Common.{arith}
use Rattle.region_table.proofs.BitLemmas.{marked_none, marked_more, marked_all}
use Rattle.region_table.proofs.SettledLemmas.{tables_settled}
use Rattle.region_table.proofs.marking.set_marks.Goals as goal

pub loop-word-init : goal.loop-word-init
loop-word-init c = marked_none c.args.m.now c.args.r.now c.args.marks.now c.is_flat.ensures.size

pub loop-word-preserved : goal.loop-word-preserved
loop-word-preserved c =
    marked_more c.args.m.now c.loop-word.m c.put_bit_at.new.m c.args.r.now c.args.marks.now c.loop-word.word c.has.result c.loop-word.invariant
    c.put_bit_at.ensures c.has.ensures (record { even = omega arith; above = omega arith; below = omega arith }) c.requires.from_even

pub returns-clause-marked : goal.returns-clause-marked
returns-clause-marked c = marked_all c.args.m.now c.loop-word.m c.args.r.now c.args.marks.now _ c.loop-word.invariant (omega arith)

pub returns-clause-keeps : goal.returns-clause-keeps
returns-clause-keeps c = tables_settled c.args.m.now c.loop-word.m c.loop-word.invariant.tables

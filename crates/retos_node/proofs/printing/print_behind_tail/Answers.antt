use Rattle.std.proofs.Common.{[], ◌∷◌, ◌++◌, refl}
use Rattle.trace_model.specs.Texts.{record_text}
use Rattle.retos_node.specs.Printing.{tail_lines}
use Rattle.retos_node.proofs.Writing.{printed_then, cut_after, cut_within}
use Rattle.retos_node.proofs.printing.print_behind_tail.Goals as goal

pub returns-in-Err-clause-prefix : goal.returns-in-Err-clause-prefix
returns-in-Err-clause-prefix g c =
    cut_within g.S.Sink.called g.S.Sink.state c.args.out.now c.print_before.new.out (tail_lines c.args.shown c.args.tail.now c.args.rec.now)
    (record_text c.args.rec.now ∷ []) (tail_lines c.args.shown c.args.tail.now c.args.rec.now ++ record_text c.args.rec.now ∷ []) c.in-Err.fault
    c.in-Err.ensures.prefix refl

pub returns-in-Ok-print_record-clause-whole : goal.returns-in-Ok-print_record-clause-whole
returns-in-Ok-print_record-clause-whole g c =
    printed_then g.S.Sink.called g.S.Sink.state c.args.out.now c.print_before.new.out c.print_record.new.out
    (tail_lines c.args.shown c.args.tail.now c.args.rec.now) (record_text c.args.rec.now ∷ []) c.in-Ok.ensures.whole c.in-Ok-print_record.ensures.whole

pub returns-in-Err-print_record-clause-prefix : goal.returns-in-Err-print_record-clause-prefix
returns-in-Err-print_record-clause-prefix g c =
    cut_after g.S.Sink.called g.S.Sink.state c.args.out.now c.print_before.new.out c.print_record.new.out
    (tail_lines c.args.shown c.args.tail.now c.args.rec.now) (record_text c.args.rec.now ∷ []) c.in-Err-print_record.fault c.in-Ok.ensures.whole
    c.in-Err-print_record.ensures.prefix

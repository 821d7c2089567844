use Rattle.std.proofs.Common.{List, subst}
use Rattle.code_model.specs.declared.parts.Export.{Export}
use Rattle.insert_model.specs.declared.line.Line.{Line}
use Rattle.check_inserter.specs.Named.{AreAdded, SomeJumpTo, SomeExport}
use Rattle.check_inserter.proofs.Naming.{all_targets}
use Rattle.check_inserter.proofs.named.targets.Goals as goal

pub returns : goal.returns
returns c =
    all_targets c.args.o.now c.new-marks.result _ _ _ _ c.new-marks.ensures.empty
    (subst (λ (ls : List Line). AreAdded c.new-marks.result c.mark_jumps.new.marks (SomeJumpTo ls)) c.requires.are c.mark_jumps.ensures) c.mark_words.ensures c.mark_offset.ensures (subst (λ (es : List Export). AreAdded c.mark_offset.new.marks c.mark_exports.new.marks (SomeExport es)) c.as_slice.ensures c.mark_exports.ensures)

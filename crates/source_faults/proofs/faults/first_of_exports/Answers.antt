use Rattle.std.proofs.Common.{List, subst}
use Rattle.code_model.specs.declared.parts.Export.{Export}
use Rattle.source_faults.specs.Found.{IsLeast}
use Rattle.source_faults.proofs.Faulty.{ExportsHit, no_exports, exports_step, exports_end}
use Rattle.source_faults.proofs.faults.first_of_exports.Goals as goal

pub loop-export-init : goal.loop-export-init
loop-export-init c = no_exports c.args.o.now

pub loop-export-preserved : goal.loop-export-preserved
loop-export-preserved c =
    exports_step c.args.o.now c.as_slice-export-items.result.now c.loop-export.export-index _ _ _ _ c.loop-export-test.true c.loop-export.invariant c.export_fault.ensures c.lesser-first.ensures

pub returns : goal.returns
returns c =
    subst (λ (es : List Export). IsLeast (ExportsHit c.args.o.now es) c.loop-export.first) c.as_slice-export-items.ensures
    (exports_end c.args.o.now c.as_slice-export-items.result.now c.loop-export.export-index _ c.loop-export-test.false c.loop-export.invariant)

use Rattle.std.proofs.Common.{◌≡◌, take}
use Rattle.insert_model.specs.declared.fault.InsertKind.TheVariants.{BadTarget}
use Rattle.insert_model.specs.Faults.{ExportsMiss}
use Rattle.source_faults.specs.Found.{IsLeast}
use Rattle.source_faults.proofs.faults.first_of_exports.Given as goal

abbrev pub invariant-loop-export : goal.invariant-loop-export
invariant-loop-export l = IsLeast (λ k x. (k ≡ BadTarget) × ExportsMiss l.o (take l.export-index l.export-items) x) l.first

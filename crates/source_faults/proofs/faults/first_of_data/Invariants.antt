use Rattle.std.proofs.Common.{◌≡◌, take}
use Rattle.insert_model.specs.declared.fault.InsertKind.TheVariants.{BadTarget}
use Rattle.insert_model.specs.Faults.{DataMiss}
use Rattle.source_faults.specs.Found.{IsLeast}
use Rattle.source_faults.proofs.faults.first_of_data.Given as goal

abbrev pub invariant-loop-reloc : goal.invariant-loop-reloc
invariant-loop-reloc l = IsLeast (λ k x. (k ≡ BadTarget) × DataMiss l.o (take l.reloc-index l.reloc-items) x) l.first

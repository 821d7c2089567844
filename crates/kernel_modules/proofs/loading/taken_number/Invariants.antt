use Rattle.std.specs.Prelude.{◌≡◌, drop, map}
use Rattle.std.specs.List.{find}
use Rattle.kernel_model.specs.Layout.{kernel_of}
use Rattle.load_model.specs.Loading.{taken_number}
use Rattle.kernel_modules.proofs.FunctionLemmas.{is_exported, number_of_export}
use Rattle.kernel_modules.proofs.loading.taken_number.Given as goal

abbrev pub invariant-loop-export : goal.invariant-loop-export
invariant-loop-export l =
    taken_number (kernel_of l.m) l.o ≡ find (is_exported (kernel_of l.m)) (map number_of_export (drop l.export-index l.export-items))

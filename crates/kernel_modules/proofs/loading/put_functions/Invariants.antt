use Rattle.std.specs.Prelude.{take}
use Rattle.std.specs.List.{fold}
use Rattle.kernel_model.specs.Layout.{kernel_of}
use Rattle.kernel_model.specs.Queues.{Leaves}
use Rattle.load_model.specs.Loading.{with_export}
use Rattle.kernel_modules.proofs.loading.put_functions.Given as goal

abbrev pub invariant-loop-export : goal.invariant-loop-export
invariant-loop-export l = Leaves l.initial.m l.m (fold (with_export l.i l.at) (kernel_of l.initial.m) (take l.export-index l.export-items))

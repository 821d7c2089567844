use Rattle.place_model.specs.Settled.{IsSettled}
use Rattle.kernel_rows.proofs.modules.a_number_that_no_module_exported_is_refused.Given as goal

abbrev pub invariant-loop-number : goal.invariant-loop-number
invariant-loop-number g l = IsSettled l.m

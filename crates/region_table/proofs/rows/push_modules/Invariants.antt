use Rattle.std.proofs.Common.{◌≡◌, ◌+◌, ◌++◌, length, take, map}
use Rattle.kernel_model.specs.Layout.{kernel_of}
use Rattle.place_model.specs.Placing.{module_domain}
use Rattle.region_table.proofs.rows.push_modules.Given as goal

abbrev pub invariant-loop-i : goal.invariant-loop-i
invariant-loop-i l = record {
  items : l.rows.items ≡ l.initial.rows.items ++ map module_domain (take l.i (kernel_of l.m).modules);
  size : length l.rows.items ≡ length l.initial.rows.items + l.i;
}

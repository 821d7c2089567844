use Rattle.std.proofs.Common.{◌≡◌, ◌+◌, ◌++◌, length, take, map}
use Rattle.kernel_model.specs.Layout.{kernel_of}
use Rattle.place_model.specs.Placing.{app_domain}
use Rattle.region_table.proofs.rows.push_apps.Given as goal

abbrev pub invariant-loop-a : goal.invariant-loop-a
invariant-loop-a l = record {
  items : l.rows.items ≡ l.initial.rows.items ++ map app_domain (take l.a (kernel_of l.m).apps);
  size : length l.rows.items ≡ length l.initial.rows.items + l.a;
}

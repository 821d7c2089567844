use Rattle.std.proofs.Common.{◌≡◌, take, false}
use Rattle.std.specs.List.{list_any}
use Rattle.kernel_model.specs.Layout.{kernel_of}
use Rattle.node_model.specs.Runs.{is_live_app}
use Rattle.retos_node.proofs.quiet.has_live_app.Given as goal

abbrev pub invariant-loop-a : goal.invariant-loop-a
invariant-loop-a l = list_any is_live_app (take l.a (kernel_of l.m).apps) ≡ false

use Rattle.std.proofs.Common.{◌≡◌, ◌++◌, ◌-◌}
use Rattle.kernel_model.specs.Links.{gathered}
use Rattle.kernel_tables.specs.Linking.{walk_in}
use Rattle.kernel_tables.proofs.links.walk_ready.Given as goal

abbrev pub invariant-loop-i : goal.invariant-loop-i
invariant-loop-i l = l.list.items ++ gathered (walk_in l.fn.m) (8 - l.i) ≡ gathered (walk_in l.fn.m) 8

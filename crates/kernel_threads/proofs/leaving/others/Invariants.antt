use Rattle.std.proofs.Common.{◌≡◌, ◌≤◌, length, take}
use Rattle.kernel_model.specs.Ending.{others}
use Rattle.kernel_threads.proofs.leaving.others.Given as goal

abbrev pub invariant-loop-t : goal.invariant-loop-t
invariant-loop-t l = record { kept : l.kept.items ≡ others l.a (take l.t-index l.t-items); room : length l.kept.items ≤ l.t-index }

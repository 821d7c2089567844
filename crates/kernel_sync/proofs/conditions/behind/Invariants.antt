use Rattle.std.proofs.Common.{◌≡◌, ◌-◌, ◌≤◌, length, take, drop}
use Rattle.kernel_sync.proofs.conditions.behind.Given as goal

abbrev pub invariant-loop-k : goal.invariant-loop-k
invariant-loop-k l = record { rest : l.rest.items ≡ take (l.k - l.count) (drop l.count l.items); room : length l.rest.items ≤ l.k - l.count }

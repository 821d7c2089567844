use Rattle.std.proofs.Common.{◌≡◌, ℕ, ◌+◌, ◌*◌, ◌<◌, [], ◌∷◌}
use Rattle.kernel_model.specs.Bytes.{part}
use Rattle.kernel_model.specs.Links.{first, last}
use Rattle.kernel_model.specs.Layout.{kernel_of, queue_of}
use Rattle.kernel_tables.proofs.order.ends_hold.Given as goal

abbrev pub invariant-loop-q : goal.invariant-loop-q
invariant-loop-q l = (q : ℕ) → q < l.q
    → part l.m (544 + 2 * q) 2 ≡ first (queue_of (kernel_of l.m).threads l.ready l.sleepers q) ∷ last (queue_of (kernel_of l.m).threads l.ready l.sleepers q) ∷ []

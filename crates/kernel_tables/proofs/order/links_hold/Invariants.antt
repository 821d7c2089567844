use Rattle.std.proofs.Common.{◌≡◌, ℕ, ◌+◌, ◌*◌, ◌<◌}
use Rattle.kernel_model.specs.Bytes.{part}
use Rattle.kernel_model.specs.Layout.{kernel_of, links_of}
use Rattle.kernel_tables.proofs.order.links_hold.Given as goal

abbrev pub invariant-loop-t : goal.invariant-loop-t
invariant-loop-t l = (t : ℕ) → t < l.t → part l.m (1100 + 48 * t) 4 ≡ links_of (kernel_of l.m).threads l.ready l.sleepers t

use Rattle.std.proofs.Common.{◌≤◌, ◌+◌, subst, sym}
use Rattle.kernel_model.specs.Kernel.{with_ready}
use Rattle.kernel_model.specs.Layout.{kernel_of}
use Rattle.kernel_model.specs.Queues.{Leaves, without}
use Rattle.kernel_model.specs.Standing.{next_in, prev_in}
use Rattle.kernel_tables.proofs.Patches.{flat_small}
use Rattle.kernel_tables.proofs.QueueCalls.{take_room, take_leaves}
use Rattle.kernel_tables.proofs.queues.ready_take.Goals as goal

pub unlink-requires-clause-links : goal.unlink-requires-clause-links
unlink-requires-clause-links c =
    let m = c.args.m.now in let t = c.args.t in
    subst (λ q. (prev_in m q (t + 1) ≤ 32) × (next_in m q (t + 1) ≤ 32)) (sym c.priority.ensures)
    (take_room m t c.is_flat.ensures.size (flat_small m c.is_flat.ensures.small) c.requires.queues c.requires.there)

pub returns-clause-leaves : goal.returns-clause-leaves
returns-clause-leaves c =
    let m = c.args.m.now in
    take_leaves m c.args.t c.is_flat.ensures.size (flat_small m c.is_flat.ensures.small) c.requires.queues c.unlink.new.m c.priority.result c.requires.there c.priority.ensures c.unlink.ensures

pub returns-clause-queues : goal.returns-clause-queues
returns-clause-queues c =
    let m = c.args.m.now in
    let left : Leaves m c.unlink.new.m (with_ready (kernel_of m) (without (kernel_of m).ready c.args.t)) =
    take_leaves m c.args.t c.is_flat.ensures.size (flat_small m c.is_flat.ensures.small) c.requires.queues c.unlink.new.m c.priority.result c.requires.there c.priority.ensures c.unlink.ensures in
    left.queues c.requires.queues

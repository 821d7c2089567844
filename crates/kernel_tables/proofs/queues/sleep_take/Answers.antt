use Rattle.kernel_model.specs.Kernel.{with_sleepers}
use Rattle.kernel_model.specs.Layout.{kernel_of}
use Rattle.kernel_model.specs.Queues.{Leaves, without}
use Rattle.kernel_tables.proofs.Patches.{flat_small}
use Rattle.kernel_tables.proofs.QueueCalls.{wake_room, wake_leaves}
use Rattle.kernel_tables.proofs.queues.sleep_take.Goals as goal

pub unlink-requires-clause-links : goal.unlink-requires-clause-links
unlink-requires-clause-links c = let m = c.args.m.now in wake_room m c.args.t c.is_flat.ensures.size (flat_small m c.is_flat.ensures.small) c.requires.queues c.requires.there

pub returns-clause-leaves : goal.returns-clause-leaves
returns-clause-leaves c =
    let m = c.args.m.now in
    wake_leaves m c.args.t c.is_flat.ensures.size (flat_small m c.is_flat.ensures.small) c.requires.queues c.unlink.new.m c.requires.there c.unlink.ensures

pub returns-clause-queues : goal.returns-clause-queues
returns-clause-queues c =
    let m = c.args.m.now in
    let left : Leaves m c.unlink.new.m (with_sleepers (kernel_of m) (without (kernel_of m).sleepers c.args.t)) =
    wake_leaves m c.args.t c.is_flat.ensures.size (flat_small m c.is_flat.ensures.small) c.requires.queues c.unlink.new.m c.requires.there c.unlink.ensures in
    left.queues c.requires.queues

use Rattle.kernel_model.specs.Kernel.{with_thread}
use Rattle.kernel_model.specs.Layout.{kernel_of}
use Rattle.kernel_model.specs.Queues.{Leaves}
use Rattle.kernel_tables.proofs.QueueLemmas.{leaves_thread}
use Rattle.kernel_tables.proofs.Patches.{flat_small}
use Rattle.kernel_tables.proofs.threads.set_thread.Goals as goal

pub returns-clause-leaves : goal.returns-clause-leaves
returns-clause-leaves c =
    leaves_thread c.args.m.now c.put_thread_row.new.m c.args.t c.args.row.now c.is_flat.ensures.size (flat_small c.args.m.now c.is_flat.ensures.small) c.requires.number
    c.put_thread_row.ensures.registers c.requires.queues c.requires.priority c.requires.wakes c.put_thread_row.ensures.put

pub returns-clause-queues : goal.returns-clause-queues
returns-clause-queues c =
    let left : Leaves c.args.m.now c.put_thread_row.new.m (with_thread (kernel_of c.args.m.now) c.args.t c.args.row.now) =
    leaves_thread c.args.m.now c.put_thread_row.new.m c.args.t c.args.row.now c.is_flat.ensures.size (flat_small c.args.m.now c.is_flat.ensures.small) c.requires.number
    c.put_thread_row.ensures.registers c.requires.queues c.requires.priority c.requires.wakes c.put_thread_row.ensures.put in
    left.queues c.requires.queues

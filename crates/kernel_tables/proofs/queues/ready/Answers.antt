use Rattle.std.proofs.Common.{◌∙◌}
use Rattle.kernel_tables.proofs.ReadQueues.{ready_of, ready_room}
use Rattle.kernel_tables.proofs.queues.ready.Goals as goal

pub returns : goal.returns
returns c = c.walk_ready.ensures.whole (c.walk_ready.ensures.room (ready_room c.args.m.now c.requires)) ∙ ready_of c.args.m.now

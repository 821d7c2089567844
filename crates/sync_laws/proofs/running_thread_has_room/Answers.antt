use Rattle.sync_laws.proofs.WaiterRules.{running_has_room}
use Rattle.sync_laws.proofs.running_thread_has_room.Goals as goal

pub returns : goal.returns
returns c = running_has_room

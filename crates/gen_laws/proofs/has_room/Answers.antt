use Rattle.gen_laws.proofs.Room.{room}
use Rattle.gen_laws.proofs.has_room.Goals as goal

pub returns : goal.returns
returns c = room c.line_stands.ensures c.first_version.ensures

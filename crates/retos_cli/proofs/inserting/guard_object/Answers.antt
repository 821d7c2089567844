use Rattle.std.proofs.Common.{refl}
use Rattle.retos_cli.proofs.inserting.guard_object.Goals as goal

pub returns-in-Ok : goal.returns-in-Ok
returns-in-Ok c = (c.args.o.now, record { text = (refl, c.requires); gives = c.in-Ok.ensures.right })

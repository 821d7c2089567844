use Rattle.static_checker.proofs.LocalLemmas.{refuses_here, reloc_refuses, local_of}
use Rattle.static_checker.proofs.local.refuses.Goals as goal

pub returns-in-Reloc : goal.returns-in-Reloc
returns-in-Reloc c = reloc_refuses c.args.rule c.args.o.now c.args.unit.now.spot.at _ c.in-Reloc.is c.has_wrong_reloc.ensures

pub returns-in_default : goal.returns-in_default
returns-in_default c =
    refuses_here c.args.rule c.args.o.now c.args.unit.now _ c.requires.here c.in_default.not-Reloc
    (local_of c.args.rule c.in_default.not-Spelled c.in_default.not-Target c.in_default.not-Jump c.in_default.not-Entry) c.breaks.ensures

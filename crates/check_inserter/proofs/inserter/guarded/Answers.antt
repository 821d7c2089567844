use Rattle.check_inserter.proofs.Forming.{source_of}
use Rattle.check_inserter.proofs.inserter.guarded.Goals as goal

pub assembled-requires-clause-source : goal.assembled-requires-clause-source
assembled-requires-clause-source c = source_of c.args.o.now c.args.lines.now c.requires.source

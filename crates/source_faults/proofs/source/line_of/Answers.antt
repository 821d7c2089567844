use Rattle.std.proofs.Common.{arith}
use Rattle.source_faults.proofs.WordKinds.{line_is}
use Rattle.source_faults.proofs.source.line_of.Goals as goal

pub returns : goal.returns
returns c =
    line_is c.args.o.now c.args.kinds.now c.args.spot.now.at c.args.spot.now.words c.args.spot.now.instr _ _ c.requires.kinds
    (omega (arith, c.requires.spot.within, c.requires.spot.least)) c.requires.spot.within c.requires.words c.kind_within.ensures c.kind_within-2.ensures

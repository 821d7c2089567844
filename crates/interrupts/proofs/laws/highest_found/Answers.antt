use Rattle.interrupts.proofs.Words.{found}
use Rattle.interrupts.proofs.laws.highest_found.Goals as goal

pub returns : goal.returns
returns c = found c.args.word c.args.highest c.requires.none c.requires.member c.requires.greatest

use Rattle.source_faults.proofs.Startings.{iff_false, jump_start, no_jump_start}
use Rattle.source_faults.proofs.starts.is_jump_start.Goals as goal

pub returns-in-Some : goal.returns-in-Some
returns-in-Some c = jump_start c.args.o.now.code c.args.starts.now _ c.in-Some.target _ _ c.ranges.offset c.requires.starts c.in-Some.ensures.1 c.has.ensures

pub returns-in-None : goal.returns-in-None
returns-in-None c = iff_false _ (no_jump_start c.args.o.now _ _ c.ranges.offset c.in-None.ensures)

use Rattle.code_model.specs.Fields.{fields}
use Rattle.check_inserter.proofs.Jumping.{sized_short, sized_long}
use Rattle.check_inserter.proofs.jumps.short_jump.Goals as goal

pub returns-then-is_near_line : goal.returns-then-is_near_line
returns-then-is_near_line c = sized_short (fields c.args.o.now) c.args.line.now _ c.requires.version c.is_near_line.ensures c.if-is_near_line.true

pub returns-else-is_near_line : goal.returns-else-is_near_line
returns-else-is_near_line c = sized_long (fields c.args.o.now) c.args.line.now _ c.requires.version c.is_near_line.ensures c.if-is_near_line.false

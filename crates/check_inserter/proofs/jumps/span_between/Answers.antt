use Rattle.std.proofs.Common.{arith}
use Rattle.check_inserter.proofs.Jumping.{span_ahead, span_back}
use Rattle.check_inserter.proofs.jumps.span_between.Goals as goal

pub returns-then-from-to : goal.returns-then-from-to
returns-then-from-to c = span_ahead c.args.from c.args.to (omega arith) c.requires.ahead

pub returns-else-from-to : goal.returns-else-from-to
returns-else-from-to c = span_back c.args.from c.args.to (omega arith) c.requires.back

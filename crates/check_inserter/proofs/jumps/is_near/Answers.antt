use Rattle.std.proofs.Common.{arith}
use Rattle.check_inserter.proofs.Jumping.{near_ahead, near_back}
use Rattle.check_inserter.proofs.jumps.is_near.Goals as goal

pub returns-then-from-to : goal.returns-then-from-to
returns-then-from-to c = near_ahead c.args.from c.args.to (omega arith)

pub returns-else-from-to : goal.returns-else-from-to
returns-else-from-to c = near_back c.args.from c.args.to (omega arith)

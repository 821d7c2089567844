use Rattle.std.proofs.Common.{arith}
use Rattle.kernel_tables.proofs.MemberLemmas.{last_is}
use Rattle.kernel_tables.proofs.links.last_link.Goals as goal

pub returns-clause-value : goal.returns-clause-value
returns-clause-value c = last_is c.args.list.now (grind arith)

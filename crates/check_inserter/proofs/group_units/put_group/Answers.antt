use Rattle.check_inserter.proofs.Grouping.{group_none}
use Rattle.check_inserter.proofs.group_units.put_group.Goals as goal

pub returns-in-None : goal.returns-in-None
returns-in-None c = group_none (λ x. c.args.short) c.args.size c.args.line.now c.args.rest.now c.args.out.now.items c.is_empty.ensures c.if-is_empty.false c.in-None.ensures

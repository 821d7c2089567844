use Rattle.std.proofs.Common.{arith}
use Rattle.static_checker.proofs.RunLemmas.{clear_unserved, clear_full}
use Rattle.static_checker.proofs.PassLemmas.{served_spot}
use Rattle.static_checker.proofs.pass.next_by.Goals as goal

pub returns-then-most_served-served : goal.returns-then-most_served-served
returns-then-most_served-served c = clear_full c.args.o.now c.args.kind c.args.from.at c.args.served c.args.at c.requires.served c.requires.reached (omega arith)

pub returns-in-Some : goal.returns-in-Some
returns-in-Some c = served_spot c.args.o.now c.args.kind c.args.from.at c.args.served c.args.at c.in-Some.spot c.requires.reached c.requires.served (omega arith) c.in-Some.ensures

pub returns-in-None : goal.returns-in-None
returns-in-None c = clear_unserved c.args.o.now c.args.kind c.args.from.at c.args.served c.args.at c.requires.served c.requires.reached c.in-None.ensures

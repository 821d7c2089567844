use Rattle.static_checker.proofs.Guarding.{not_true}
use Rattle.static_checker.proofs.GuardLemmas.{none_stands_served, spot_unserved}
use Rattle.static_checker.proofs.guards.served_at.Goals as goal

pub returns-else-serves : goal.returns-else-serves
returns-else-serves c =
    spot_unserved c.args.kind c.args.o.now c.args.cursor.at c.args.at c.in-Some.spot c.in-Some.ensures (λ h. not_true _ c.if-serves.false (c.serves.ensures.1 h))

pub returns-in-None : goal.returns-in-None
returns-in-None c = none_stands_served c.args.kind c.args.o.now c.args.cursor.at c.args.at c.in-None.ensures

use Rattle.std.proofs.Common.{refl}
use Rattle.code_model.specs.Rules.{number}
use Rattle.static_checker.specs.Firsts.{IsLocal}
use Rattle.static_checker.proofs.Guarding.{not_true}
use Rattle.static_checker.proofs.FirstLemmas.{first_here, one_more, none_found}
use Rattle.static_checker.proofs.local.next_rule.Goals as goal

pub returns-then-refuses : goal.returns-then-refuses
returns-then-refuses c =
    first_here c.args.o.now IsLocal c.args.unit.now.spot.at (number c.args.next) c.args.next refl
    (none_found c.args.o.now IsLocal c.args.unit.now.spot.at (number c.args.next) c.args.found c.in-None.is c.requires.found) (c.refuses.ensures.0 c.if-refuses.true)

pub returns-else-refuses : goal.returns-else-refuses
returns-else-refuses c =
    one_more c.args.o.now IsLocal c.args.unit.now.spot.at (number c.args.next) c.args.next refl
    (none_found c.args.o.now IsLocal c.args.unit.now.spot.at (number c.args.next) c.args.found c.in-None.is c.requires.found) (λ h. not_true _ c.if-refuses.false (c.refuses.ensures.1 h))

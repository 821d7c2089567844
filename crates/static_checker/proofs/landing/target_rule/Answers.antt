use Rattle.static_checker.proofs.Guarding.{not_true}
use Rattle.static_checker.proofs.LandingLemmas.{no_transfer}
use Rattle.static_checker.proofs.landing.target_rule.Goals as goal

pub returns-else-is_marked : goal.returns-else-is_marked
returns-else-is_marked c = no_transfer _ _ (λ x. not_true _ c.if-is_marked.false (c.is_marked.ensures.1 ((c.requires.whole.transfers _).1 x)))

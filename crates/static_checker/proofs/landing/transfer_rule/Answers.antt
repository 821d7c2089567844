use Rattle.static_checker.proofs.Guarding.{not_true}
use Rattle.static_checker.proofs.LandingLemmas.{target_refuses, jump_refuses, jump_first, none_here}
use Rattle.static_checker.proofs.landing.transfer_rule.Goals as goal

pub returns-then-jump_misses_unit : goal.returns-then-jump_misses_unit
returns-then-jump_misses_unit c = jump_first _ _ (λ h. not_true _ c.if-transfer_misses_target.false ((target_refuses _ _ _ c.requires.transfer c.in-Some.ensures _ c.transfer_misses_target.ensures).1 h)) ((jump_refuses _ _ _ c.requires.transfer c.in-Some.ensures _ c.jump_misses_unit.ensures).0 c.if-jump_misses_unit.true)

pub returns-else-jump_misses_unit : goal.returns-else-jump_misses_unit
returns-else-jump_misses_unit c = none_here _ _ (λ h. not_true _ c.if-transfer_misses_target.false ((target_refuses _ _ _ c.requires.transfer c.in-Some.ensures _ c.transfer_misses_target.ensures).1 h)) (λ h. not_true _ c.if-jump_misses_unit.false ((jump_refuses _ _ _ c.requires.transfer c.in-Some.ensures _ c.jump_misses_unit.ensures).1 h))

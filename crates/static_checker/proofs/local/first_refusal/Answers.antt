use Rattle.std.proofs.Common.{refl}
use Rattle.static_checker.proofs.LocalLemmas.{none_at_spot, rule_first}
use Rattle.static_checker.proofs.local.first_refusal.Goals as goal

pub first_wrong_reloc-requires-clause-none : goal.first_wrong_reloc-requires-clause-none
first_wrong_reloc-requires-clause-none c = none_at_spot _ _ c.in-None.ensures

pub returns-in-Some : goal.returns-in-Some
returns-in-Some c = rule_first c.args.o.now c.args.unit.now.spot _ c.in-Some.rule refl c.requires.here.is.is.least c.in-Some.ensures

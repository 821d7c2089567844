use Rattle.static_checker.proofs.UnitLemmas.{only_kind}
use Rattle.static_checker.proofs.guards.kind_at.Goals as goal

pub returns-clause-only : goal.returns-clause-only
returns-clause-only c = only_kind c.args.o.now c.args.at _ _ _ c.word_at.ensures c.word_at-2.ensures c.kind_by.ensures.only

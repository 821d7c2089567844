use Rattle.std.proofs.Common.{None, arith}
use Rattle.static_checker.proofs.UnitLemmas.{no_save, first_word}
use Rattle.static_checker.proofs.code_units.begin_guard.Goals as goal

pub unguarded_unit-requires-clause-none : goal.unguarded_unit-requires-clause-none
unguarded_unit-requires-clause-none c = no_save _ _ _ c.word_at.ensures c.if-word_at-eq-FIRST_WORD.false

pub returns-then-word_at-eq-FIRST_WORD : goal.returns-then-word_at-eq-FIRST_WORD
returns-then-word_at-eq-FIRST_WORD c = (first_word c.args.o.now c.args.at c.kind_at.result c.kind_at.ensures.only c.kind_at.ensures.wording, omega arith)

pub returns-else-word_at-eq-FIRST_WORD : goal.returns-else-word_at-eq-FIRST_WORD
returns-else-word_at-eq-FIRST_WORD c = c.unguarded_unit.ensures None

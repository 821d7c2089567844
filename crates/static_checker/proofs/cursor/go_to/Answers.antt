use Rattle.static_checker.proofs.Guarding.{not_true}
use Rattle.static_checker.proofs.CursorLemmas.{cursor_ends}
use Rattle.static_checker.proofs.cursor.go_to.Goals as goal

pub returns-clause-is : goal.returns-clause-is
returns-clause-is c = cursor_ends _ _ _ c.args.o.now.form.relocs_rise c.loop-reloc.invariant.within c.loop-reloc.invariant.below (λ d inside less. not_true _ c.loop-reloc-test.false (c.is_before.ensures.above d inside less))

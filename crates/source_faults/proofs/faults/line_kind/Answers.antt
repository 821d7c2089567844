use Rattle.source_faults.proofs.Questions.{not_so, no_lesser}
use Rattle.source_faults.proofs.faults.line_kind.Goals as goal

pub returns-then-goes_wrong : goal.returns-then-goes_wrong
returns-then-goes_wrong c = (
  c.goes_wrong.ensures.0 c.if-goes_wrong.true,
  no_lesser c.args.o.now c.args.line.now (not_so _ _ c.uses_check.ensures c.if-uses_check.false) (not_so _ _ c.is_forbidden.ensures c.if-is_forbidden.false),
)

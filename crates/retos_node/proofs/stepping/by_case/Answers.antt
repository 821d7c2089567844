use Rattle.std.proofs.Common.{inl, arith, sym, ◌∙◌}
use Rattle.kernel_model.specs.Layout.{kernel_of}
use Rattle.retos_node.proofs.Choosing.{accepts, in_code}
use Rattle.retos_node.proofs.stepping.by_case.Goals as goal

pub acceptance-requires-clause-case : goal.acceptance-requires-clause-case
acceptance-requires-clause-case c = accepts (kernel_of c.args.m.now) c.args.r.now _ (sym c.line_to_accept.ensures.value ∙ c.in-Some.is)

pub in_code-requires-clause-case : goal.in_code-requires-clause-case
in_code-requires-clause-case c = in_code (kernel_of c.args.m.now) c.args.r.now (sym c.line_to_accept.ensures.value ∙ c.in-None.is) (inl (omega arith))

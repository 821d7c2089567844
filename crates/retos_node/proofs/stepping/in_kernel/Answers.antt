use Rattle.std.proofs.Common.{arith, inl, inr, ◌∙◌}
use Rattle.kernel_model.specs.Layout.{kernel_of}
use Rattle.retos_node.proofs.Choosing.{at_entry, idles, serves, in_code}
use Rattle.retos_node.proofs.stepping.in_kernel.Goals as goal

pub enter-requires-clause-at : goal.enter-requires-clause-at
enter-requires-clause-at c =
    at_entry (kernel_of c.args.m.now) c.args.r.now c.requires.none c.requires.above (omega arith) c.is_context.ensures.pc_even

pub idle_turn-requires : goal.idle_turn-requires
idle_turn-requires c = record { case = idles (kernel_of c.args.m.now) c.args.r.now c.requires.none (omega arith) }

pub serve-requires-clause-case : goal.serve-requires-clause-case
serve-requires-clause-case c =
    serves (kernel_of c.args.m.now) c.args.r.now _ c.requires.none (omega arith) (omega (arith, c.is_context.ensures.pc_even))

pub in_code-requires-clause-case : goal.in_code-requires-clause-case
in_code-requires-clause-case c =
    in_code (kernel_of c.args.m.now) c.args.r.now c.requires.none (inr (
      omega arith,
      λ e. c.if-pc.false (c.get-pc.ensures ∙ e),
      elim c.else-pc-ge-FIRST_ROUTINE.either [ inl x ↦ inr (omega (arith, x.1)) | inr x ↦ inl (omega (arith, x)) ],
    ))

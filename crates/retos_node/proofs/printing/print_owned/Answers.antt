use Rattle.std.proofs.Common.{sym, subst, List, ℕ}
use Rattle.kernel_model.specs.Layout.{kernel_of}
use Rattle.retos_node.specs.Printing.{Printed}
use Rattle.retos_node.proofs.Writing.{printed_none, not_owned}
use Rattle.retos_node.proofs.printing.print_owned.Goals as goal

pub returns-then-owner-number-clause-whole : goal.returns-then-owner-number-clause-whole
returns-then-owner-number-clause-whole g c =
    subst (λ (l : List (List ℕ)). Printed g.S.Sink.called g.S.Sink.state c.args.out.now c.args.out.now l)
    (sym (not_owned (kernel_of c.args.m.now) c.args.owner.now c.args.object c.args.number c.told-owner c.requires c.if-owner-number.true))
    (printed_none g.S.Sink.called g.S.Sink.state c.args.out.now)

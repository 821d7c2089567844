use Rattle.std.proofs.Common.{sym, ◌∙◌, subst, List, ℕ}
use Rattle.std.specs.Prelude.{OnOk, IfErr}
use Rattle.retos_node.specs.Printing.{Printed, PrintedUpTo}
use Rattle.retos_node.proofs.Writing.{printed_none, tail_before_fault, no_tail_before, tail_unshown}
use Rattle.retos_node.proofs.tails.print_before.Goals as goal

pub returns-then-not-shown-clause-whole : goal.returns-then-not-shown-clause-whole
returns-then-not-shown-clause-whole g c =
    subst (λ (l : List (List ℕ)). Printed g.S.Sink.called g.S.Sink.state c.args.out.now c.args.out.now l)
    (tail_unshown c.args.shown c.args.tail.now c.args.rec.now c.if-not-shown.true) (printed_none g.S.Sink.called g.S.Sink.state c.args.out.now)

pub returns-then-is_fault-clause-whole : goal.returns-then-is_fault-clause-whole
returns-then-is_fault-clause-whole g c =
    subst (λ (l : List (List ℕ)). OnOk c.print_tail.result (Printed g.S.Sink.called g.S.Sink.state c.args.out.now c.print_tail.new.out l))
    (tail_before_fault c.args.shown c.args.tail.now c.args.rec.now c.if-not-shown.false (sym c.is_fault.ensures ∙ c.if-is_fault.true)) c.print_tail.ensures.whole

pub returns-then-is_fault-clause-prefix : goal.returns-then-is_fault-clause-prefix
returns-then-is_fault-clause-prefix g c =
    subst
    (λ (l : List (List ℕ)).
    IfErr c.print_tail.result (λ fault. PrintedUpTo g.S.Sink.called g.S.Sink.state c.args.out.now c.print_tail.new.out l fault))
    (tail_before_fault c.args.shown c.args.tail.now c.args.rec.now c.if-not-shown.false (sym c.is_fault.ensures ∙ c.if-is_fault.true)) c.print_tail.ensures.prefix

pub returns-clause-whole : goal.returns-clause-whole
returns-clause-whole g c =
    subst (λ (l : List (List ℕ)). Printed g.S.Sink.called g.S.Sink.state c.args.out.now c.args.out.now l)
    (no_tail_before c.args.shown c.args.tail.now c.args.rec.now c.if-not-shown.false (sym c.is_fault.ensures ∙ c.if-is_fault.false))
    (printed_none g.S.Sink.called g.S.Sink.state c.args.out.now)

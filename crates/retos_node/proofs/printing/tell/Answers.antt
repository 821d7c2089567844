use Rattle.std.proofs.Common.{sym, ◌∙◌, subst, List, ℕ}
use Rattle.std.specs.Prelude.{OnOk, IfErr}
use Rattle.retos_node.specs.Printing.{Printed, PrintedUpTo}
use Rattle.retos_node.proofs.Writing.{printed_none, unshown, shown_always, shown_all}
use Rattle.retos_node.proofs.printing.tell.Goals as goal

pub returns-clause-whole : goal.returns-clause-whole
returns-clause-whole g c =
    subst (λ (l : List (List ℕ)). Printed g.S.Sink.called g.S.Sink.state c.args.out.now c.args.out.now l)
    (unshown c.args.show c.args.tail.now c.args.rec.now c.if-show.false (sym c.is_always_shown.ensures ∙ c.if-is_always_shown.false))
    (printed_none g.S.Sink.called g.S.Sink.state c.args.out.now)

pub returns-then-is_always_shown-clause-whole : goal.returns-then-is_always_shown-clause-whole
returns-then-is_always_shown-clause-whole g c =
    subst (λ (l : List (List ℕ)). OnOk c.print_behind_tail.result (Printed g.S.Sink.called g.S.Sink.state c.args.out.now c.print_behind_tail.new.out l))
    (shown_always c.args.show c.args.tail.now c.args.rec.now (sym c.is_always_shown.ensures ∙ c.if-is_always_shown.true)) c.print_behind_tail.ensures.whole

pub returns-then-is_always_shown-clause-prefix : goal.returns-then-is_always_shown-clause-prefix
returns-then-is_always_shown-clause-prefix g c =
    subst
    (λ (l : List (List ℕ)).
    IfErr c.print_behind_tail.result (λ fault. PrintedUpTo g.S.Sink.called g.S.Sink.state c.args.out.now c.print_behind_tail.new.out l fault))
    (shown_always c.args.show c.args.tail.now c.args.rec.now (sym c.is_always_shown.ensures ∙ c.if-is_always_shown.true)) c.print_behind_tail.ensures.prefix

pub returns-then-show-clause-whole : goal.returns-then-show-clause-whole
returns-then-show-clause-whole g c =
    subst
    (λ (l : List (List ℕ)). OnOk c.print_record.result (Printed g.S.Sink.called g.S.Sink.state c.args.out.now c.print_record.new.out l))
    (shown_all c.args.show c.args.tail.now c.args.rec.now c.if-show.true (sym c.is_always_shown.ensures ∙ c.if-is_always_shown.false)) c.print_record.ensures.whole

pub returns-then-show-clause-prefix : goal.returns-then-show-clause-prefix
returns-then-show-clause-prefix g c =
    subst
    (λ (l : List (List ℕ)).
    IfErr c.print_record.result (λ fault. PrintedUpTo g.S.Sink.called g.S.Sink.state c.args.out.now c.print_record.new.out l fault))
    (shown_all c.args.show c.args.tail.now c.args.rec.now c.if-show.true (sym c.is_always_shown.ensures ∙ c.if-is_always_shown.false)) c.print_record.ensures.prefix

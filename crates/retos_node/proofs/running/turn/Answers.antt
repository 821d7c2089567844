use Rattle.std.proofs.Common.{List, [], ◌∷◌, ◌++◌, ℕ, refl, subst, ap, ◌∙◌}
use Rattle.trace_model.specs.declared.records.Record.{Record}
use Rattle.node_model.specs.Nodes.{system_of}
use Rattle.node_model.specs.Runs.{next}
use Rattle.retos_node.specs.Parts.{parts}
use Rattle.retos_node.specs.Printing.{Printed, PrintedUpTo, told_lines}
use Rattle.trace_print.specs.Shown.{kept_of}
use Rattle.retos_node.proofs.Course.{stepped_next, told_has_line, told_behind, next_counted, uncounted, idle_uncounted, within_more}
use Rattle.retos_node.proofs.Writing.{printed_none, unshown}
use Rattle.retos_node.proofs.running.turn.Goals as goal

pub tell-requires-clause-line : goal.tell-requires-clause-line
tell-requires-clause-line g c =
    told_has_line (parts c.step-record.new.self) c.args.objects.now (system_of (parts c.args.node.now) c.args.objects.now)
    c.next-stimulus.result.raised c.next-stimulus.result.pick c.step-record.result
    (c.step-record.ensures.step (system_of (parts c.args.node.now) c.args.objects.now) c.requires.sound.represents c.requires.sound.sound)

pub returns-in-Ok-clause-next : goal.returns-in-Ok-clause-next
returns-in-Ok-clause-next g c = λ s r h.
    next_counted c.args.script.now (parts c.args.node.now) (parts c.step-record.new.self) c.args.objects.now s c.next-stimulus.result.raised
    c.next-stimulus.result.pick c.step-record.result c.args.counts.now c.tell.new.counts c.step-record.ensures.step
    c.next-stimulus.ensures.raised c.next-stimulus.ensures.pick r h c.tell.ensures.counted

pub returns-in-Err-clause-next : goal.returns-in-Err-clause-next
returns-in-Err-clause-next g c = λ s r h.
    next_counted c.args.script.now (parts c.args.node.now) (parts c.step-record.new.self) c.args.objects.now s c.next-stimulus.result.raised
    c.next-stimulus.result.pick c.step-record.result c.args.counts.now c.tell.new.counts c.step-record.ensures.step
    c.next-stimulus.ensures.raised c.next-stimulus.ensures.pick r h c.tell.ensures.counted

pub returns-in-Ok-clause-whole : goal.returns-in-Ok-clause-whole
returns-in-Ok-clause-whole g c = λ s r h.
    subst (λ (l : List (List ℕ)). Printed g.S.Sink.called g.S.Sink.state c.args.out.now c.tell.new.out l)
    (told_behind c.args.node.now.show c.step-record.new.self.show c.args.node.now.tail c.step-record.new.self.tail c.step-record.result (next c.args.script.now s).shown
    c.step-record.ensures.same.1 c.step-record.ensures.kept
    (stepped_next c.args.script.now (parts c.args.node.now) (parts c.step-record.new.self) c.args.objects.now s
    c.next-stimulus.result.raised c.next-stimulus.result.pick c.step-record.result c.step-record.ensures.step
    c.next-stimulus.ensures.raised c.next-stimulus.ensures.pick r h).shown)
    c.in-Ok.ensures.whole

pub returns-in-Err-clause-prefix : goal.returns-in-Err-clause-prefix
returns-in-Err-clause-prefix g c = λ s r h.
    subst (λ (l : List (List ℕ)). PrintedUpTo g.S.Sink.called g.S.Sink.state c.args.out.now c.tell.new.out l c.in-Err.fault)
    (told_behind c.args.node.now.show c.step-record.new.self.show c.args.node.now.tail c.step-record.new.self.tail c.step-record.result (next c.args.script.now s).shown
    c.step-record.ensures.same.1 c.step-record.ensures.kept
    (stepped_next c.args.script.now (parts c.args.node.now) (parts c.step-record.new.self) c.args.objects.now s
    c.next-stimulus.result.raised c.next-stimulus.result.pick c.step-record.result c.step-record.ensures.step
    c.next-stimulus.ensures.raised c.next-stimulus.ensures.pick r h).shown)
    c.in-Err.ensures.prefix

pub returns-in-Ok-clause-holds : goal.returns-in-Ok-clause-holds
returns-in-Ok-clause-holds g c = λ s made r h e.
    c.step-record.ensures.holds made e
    ∙ ap (λ (x : Record). kept_of c.args.node.now.show (made ++ x ∷ []))
    (stepped_next c.args.script.now (parts c.args.node.now) (parts c.step-record.new.self) c.args.objects.now s
    c.next-stimulus.result.raised c.next-stimulus.result.pick c.step-record.result c.step-record.ensures.step
    c.next-stimulus.ensures.raised c.next-stimulus.ensures.pick r h).shown

pub returns-in-Err-clause-holds : goal.returns-in-Err-clause-holds
returns-in-Err-clause-holds g c = λ s made r h e.
    c.step-record.ensures.holds made e
    ∙ ap (λ (x : Record). kept_of c.args.node.now.show (made ++ x ∷ []))
    (stepped_next c.args.script.now (parts c.args.node.now) (parts c.step-record.new.self) c.args.objects.now s
    c.next-stimulus.result.raised c.next-stimulus.result.pick c.step-record.result c.step-record.ensures.step
    c.next-stimulus.ensures.raised c.next-stimulus.ensures.pick r h).shown

-- ---- an instruction of which no line tells

pub returns-in-Some-clause-next : goal.returns-in-Some-clause-next
returns-in-Some-clause-next g c = λ s r h.
    next_counted c.args.script.now (parts c.args.node.now) (parts c.run_untold.new.self) c.args.objects.now s c.next-stimulus.result.raised
    c.next-stimulus.result.pick _ c.args.counts.now c.args.counts.now c.run_untold.ensures.step
    c.next-stimulus.ensures.raised c.next-stimulus.ensures.pick r h (uncounted c.args.counts.now _ _ _ _ _)

pub returns-in-Some-clause-whole : goal.returns-in-Some-clause-whole
returns-in-Some-clause-whole g c = λ s r h.
    subst (λ (l : List (List ℕ)). Printed g.S.Sink.called g.S.Sink.state c.args.out.now c.args.out.now l)
    (unshown c.args.node.now.show c.args.node.now.tail _ c.in-Some.ensures.all refl
    ∙ ap (λ (x : Record). told_lines c.args.node.now.show c.args.node.now.tail x)
    (stepped_next c.args.script.now (parts c.args.node.now) (parts c.run_untold.new.self) c.args.objects.now s
    c.next-stimulus.result.raised c.next-stimulus.result.pick _ c.run_untold.ensures.step
    c.next-stimulus.ensures.raised c.next-stimulus.ensures.pick r h).shown)
    (printed_none g.S.Sink.called g.S.Sink.state c.args.out.now)

pub returns-in-Some-clause-holds : goal.returns-in-Some-clause-holds
returns-in-Some-clause-holds g c = λ s made r h e.
    c.run_untold.ensures.holds made e
    ∙ ap (λ (x : Record). kept_of c.args.node.now.show (made ++ x ∷ []))
    (stepped_next c.args.script.now (parts c.args.node.now) (parts c.run_untold.new.self) c.args.objects.now s
    c.next-stimulus.result.raised c.next-stimulus.result.pick _ c.run_untold.ensures.step
    c.next-stimulus.ensures.raised c.next-stimulus.ensures.pick r h).shown

-- ---- a turn of the idle machine of which no line tells

pub returns-then-idles_untold-clause-next : goal.returns-then-idles_untold-clause-next
returns-then-idles_untold-clause-next g c = λ s r h.
    next_counted c.args.script.now (parts c.args.node.now) (parts c.idle_untold.new.self) c.args.objects.now s c.next-stimulus.result.raised
    c.next-stimulus.result.pick _ c.args.counts.now c.args.counts.now c.idle_untold.ensures.step
    c.next-stimulus.ensures.raised c.next-stimulus.ensures.pick r h (idle_uncounted c.args.counts.now _)

pub returns-then-idles_untold-clause-whole : goal.returns-then-idles_untold-clause-whole
returns-then-idles_untold-clause-whole g c = λ s r h.
    subst (λ (l : List (List ℕ)). Printed g.S.Sink.called g.S.Sink.state c.args.out.now c.args.out.now l)
    (unshown c.args.node.now.show c.args.node.now.tail _ (c.idles_untold.ensures c.if-idles_untold.true).all refl
    ∙ ap (λ (x : Record). told_lines c.args.node.now.show c.args.node.now.tail x)
    (stepped_next c.args.script.now (parts c.args.node.now) (parts c.idle_untold.new.self) c.args.objects.now s
    c.next-stimulus.result.raised c.next-stimulus.result.pick _ c.idle_untold.ensures.step
    c.next-stimulus.ensures.raised c.next-stimulus.ensures.pick r h).shown)
    (printed_none g.S.Sink.called g.S.Sink.state c.args.out.now)

pub returns-then-idles_untold-clause-holds : goal.returns-then-idles_untold-clause-holds
returns-then-idles_untold-clause-holds g c = λ s made r h e.
    c.idle_untold.ensures.holds made e
    ∙ ap (λ (x : Record). kept_of c.args.node.now.show (made ++ x ∷ []))
    (stepped_next c.args.script.now (parts c.args.node.now) (parts c.idle_untold.new.self) c.args.objects.now s
    c.next-stimulus.result.raised c.next-stimulus.result.pick _ c.idle_untold.ensures.step
    c.next-stimulus.ensures.raised c.next-stimulus.ensures.pick r h).shown

-- ---- the counts

pub returns-in-Ok-clause-within : goal.returns-in-Ok-clause-within
returns-in-Ok-clause-within g c = within_more _ _ c.args.counts.now c.tell.new.counts c.step-record.result c.requires.within c.tell.ensures.counted c.step-record.ensures.made

pub returns-in-Err-clause-within : goal.returns-in-Err-clause-within
returns-in-Err-clause-within g c = within_more _ _ c.args.counts.now c.tell.new.counts c.step-record.result c.requires.within c.tell.ensures.counted c.step-record.ensures.made

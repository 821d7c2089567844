use Rattle.std.proofs.Common.{◌≡◌, List, ℕ, false, refl, sym, ◌∙◌, subst, arith}
use Rattle.node_model.specs.Runs.{run, next}
use Rattle.retos_node.specs.declared.running.Counts.{Counts}
use Rattle.retos_node.specs.Parts.{parts}
use Rattle.script_schedule.specs.Readiness.{IsReady}
use Rattle.retos_node.specs.Printing.{Printed, shown_lines}
use Rattle.trace_print.specs.Shown.{kept_of}
use Rattle.retos_node.specs.Tails.{AreTold}
use Rattle.retos_node.proofs.Writing.{printed_none}
use Rattle.retos_node.proofs.Keeping.{told_more, told_cut, holds_more}
use Rattle.retos_node.proofs.Course.{course_start, course_more, reached, over_quiet, over_limit, ended, told_all, kept_so_far, lines_within, none_kept, no_lines}
use Rattle.retos_node.proofs.running.run_steps.Goals as goal

pub loop-quiet-init : goal.loop-quiet-init
loop-quiet-init g c =
    let none : Counts = record { emits = 0; faults = 0 } in
    record {
      runs = λ s r h.
          course_start c.args.objects.now c.args.limit c.args.script.now s (parts c.args.node.now) none (λ made. AreTold g.S.Sink.called g.S.Sink.state c.args.out.now c.args.out.now c.args.node.now.show c.args.node.now.tail made)
          c.requires.first r h refl refl
          (record {
            printed = subst (λ (l : List (List ℕ)). Printed g.S.Sink.called g.S.Sink.state c.args.out.now c.args.out.now l) (sym (no_lines c.args.node.now.show)) (printed_none g.S.Sink.called g.S.Sink.state c.args.out.now);
            holds = c.requires.fresh ∙ none_kept c.args.node.now.show;
          });
      quiet = c.is_quiet-quiet.ensures;
      ready = subst (λ n. IsReady c.args.script.now n c.new-schedule.result) (sym c.requires.first) c.new-schedule.ensures;
      sound = c.requires.sound;
      show = refl;
      within = record { emits = omega arith; faults = omega arith };
      limit = omega (arith, c.requires.first);
      later = omega arith;
    }

pub loop-quiet-preserved : goal.loop-quiet-preserved
loop-quiet-preserved g c =
    let off : c.loop-quiet.quiet ≡ false = c.loop-quiet-test.true in
    let show : c.loop-quiet.node.show ≡ c.args.node.now.show = c.loop-quiet.invariant.show in
    record {
      runs = λ s r h.
          let u = c.loop-quiet.invariant.runs s r h in
          course_more c.args.objects.now c.args.limit c.args.script.now s (parts c.loop-quiet.node) (parts c.turn.new.node) c.loop-quiet.counts c.turn.new.counts
          (λ made. AreTold g.S.Sink.called g.S.Sink.state c.args.out.now c.loop-quiet.out c.args.node.now.show c.loop-quiet.node.tail made)
          (λ made. AreTold g.S.Sink.called g.S.Sink.state c.args.out.now c.turn.new.out c.args.node.now.show c.turn.new.node.tail made) u
          (sym (c.loop-quiet.invariant.quiet u.now u.represents) ∙ off) c.if-node-limit.true c.turn.ensures.made
          (c.turn.ensures.next u.now u.represents u.sound)
          (told_more g.S.Sink.called g.S.Sink.state c.args.out.now c.loop-quiet.out c.turn.new.out c.args.node.now.show c.loop-quiet.node.show c.loop-quiet.node.tail c.turn.new.node.tail u.made (next c.args.script.now u.now).shown show u.told
          (c.in-Ok.ensures.whole u.now u.represents u.sound) (c.turn.ensures.holds u.now u.made u.represents u.sound));
      quiet = c.is_quiet-quiet-in-loop-quiet.ensures;
      ready = c.turn.ensures.ready;
      sound = c.turn.ensures.sound;
      show = c.turn.ensures.show ∙ c.loop-quiet.invariant.show;
      within = c.turn.ensures.within;
      limit = omega (arith, c.turn.ensures.made, c.if-node-limit.true);
      later = omega (arith, c.loop-quiet.invariant.later, c.turn.ensures.cause.later);
    }

pub returns-in-Err-clause-reached : goal.returns-in-Err-clause-reached
returns-in-Err-clause-reached g c = λ s r h.
    let off : c.loop-quiet.quiet ≡ false = c.loop-quiet-test.true in
    let u = c.loop-quiet.invariant.runs s r h in
    reached c.args.objects.now c.args.limit c.args.script.now s (parts c.turn.new.node) c.turn.new.counts (λ made. Unit {0})
    (course_more c.args.objects.now c.args.limit c.args.script.now s (parts c.loop-quiet.node) (parts c.turn.new.node) c.loop-quiet.counts c.turn.new.counts
    (λ made. AreTold g.S.Sink.called g.S.Sink.state c.args.out.now c.loop-quiet.out c.args.node.now.show c.loop-quiet.node.tail made) (λ made. Unit {0}) u
    (sym (c.loop-quiet.invariant.quiet u.now u.represents) ∙ off) c.if-node-limit.true c.turn.ensures.made
    (c.turn.ensures.next u.now u.represents u.sound) tt)

pub returns-in-Err-clause-holds : goal.returns-in-Err-clause-holds
returns-in-Err-clause-holds g c = λ s r h.
    let off : c.loop-quiet.quiet ≡ false = c.loop-quiet-test.true in
    let u = c.loop-quiet.invariant.runs s r h in
    let more =
    course_more c.args.objects.now c.args.limit c.args.script.now s (parts c.loop-quiet.node) (parts c.turn.new.node) c.loop-quiet.counts c.turn.new.counts
    (λ made. AreTold g.S.Sink.called g.S.Sink.state c.args.out.now c.loop-quiet.out c.args.node.now.show c.loop-quiet.node.tail made)
    (λ made. c.turn.new.node.tail ≡ kept_of c.args.node.now.show made) u
    (sym (c.loop-quiet.invariant.quiet u.now u.represents) ∙ off) c.if-node-limit.true c.turn.ensures.made
    (c.turn.ensures.next u.now u.represents u.sound)
    (holds_more c.args.node.now.show c.loop-quiet.node.show c.loop-quiet.node.tail c.turn.new.node.tail u.made (next c.args.script.now u.now).shown c.loop-quiet.invariant.show u.told.holds
    (c.turn.ensures.holds u.now u.made u.represents u.sound)) in
    kept_so_far c.args.objects.now c.args.limit c.args.script.now s (parts c.turn.new.node) c.turn.new.counts
    (λ made. c.turn.new.node.tail ≡ kept_of c.args.node.now.show made) c.args.node.now.show c.turn.new.node.tail more more.told

pub returns-in-Err-clause-prefix : goal.returns-in-Err-clause-prefix
returns-in-Err-clause-prefix g c = λ s r h.
    let off : c.loop-quiet.quiet ≡ false = c.loop-quiet-test.true in
    let u = c.loop-quiet.invariant.runs s r h in
    let rest =
    lines_within c.args.objects.now c.args.limit c.args.script.now s (parts c.loop-quiet.node) c.loop-quiet.counts
    (λ made. AreTold g.S.Sink.called g.S.Sink.state c.args.out.now c.loop-quiet.out c.args.node.now.show c.loop-quiet.node.tail made) c.args.node.now.show u
    (sym (c.loop-quiet.invariant.quiet u.now u.represents) ∙ off) c.if-node-limit.true in
    told_cut g.S.Sink.called g.S.Sink.state c.args.out.now c.loop-quiet.out c.turn.new.out c.args.node.now.show c.loop-quiet.node.show c.loop-quiet.node.tail u.made (next c.args.script.now u.now).shown c.in-Err.fault
    (shown_lines c.args.node.now.show (run c.args.limit c.args.script.now s).records) c.loop-quiet.invariant.show u.told
    (c.in-Err.ensures.prefix u.now u.represents u.sound) rest

pub returns-else-node-limit-clause-ended : goal.returns-else-node-limit-clause-ended
returns-else-node-limit-clause-ended g c = λ s r h.
    let u = c.loop-quiet.invariant.runs s r h in
    ended c.args.objects.now c.args.limit c.args.script.now s (parts c.loop-quiet.node) c.loop-quiet.counts
    (λ made. AreTold g.S.Sink.called g.S.Sink.state c.args.out.now c.loop-quiet.out c.args.node.now.show c.loop-quiet.node.tail made) c.loop-quiet.quiet u
    (c.loop-quiet.invariant.quiet u.now u.represents)
    (over_limit c.args.limit c.args.script.now u.now c.loop-quiet.node.steps (omega (arith, c.if-node-limit.false)))

pub returns-else-node-limit-clause-whole : goal.returns-else-node-limit-clause-whole
returns-else-node-limit-clause-whole g c = λ s r h.
    let u = c.loop-quiet.invariant.runs s r h in
    (told_all c.args.objects.now c.args.limit c.args.script.now s (parts c.loop-quiet.node) c.loop-quiet.counts
    (λ made. AreTold g.S.Sink.called g.S.Sink.state c.args.out.now c.loop-quiet.out c.args.node.now.show c.loop-quiet.node.tail made) u
    (over_limit c.args.limit c.args.script.now u.now c.loop-quiet.node.steps (omega (arith, c.if-node-limit.false)))).printed

pub returns-else-node-limit-clause-reached : goal.returns-else-node-limit-clause-reached
returns-else-node-limit-clause-reached g c = λ s r h.
    reached c.args.objects.now c.args.limit c.args.script.now s (parts c.loop-quiet.node) c.loop-quiet.counts
    (λ made. AreTold g.S.Sink.called g.S.Sink.state c.args.out.now c.loop-quiet.out c.args.node.now.show c.loop-quiet.node.tail made) (c.loop-quiet.invariant.runs s r h)

pub returns-else-node-limit-clause-holds : goal.returns-else-node-limit-clause-holds
returns-else-node-limit-clause-holds g c = λ s r h.
    let u = c.loop-quiet.invariant.runs s r h in
    kept_so_far c.args.objects.now c.args.limit c.args.script.now s (parts c.loop-quiet.node) c.loop-quiet.counts
    (λ made. AreTold g.S.Sink.called g.S.Sink.state c.args.out.now c.loop-quiet.out c.args.node.now.show c.loop-quiet.node.tail made) c.args.node.now.show c.loop-quiet.node.tail u u.told.holds

pub returns-after-loop-quiet-clause-ended : goal.returns-after-loop-quiet-clause-ended
returns-after-loop-quiet-clause-ended g c = λ s r h.
    let u = c.loop-quiet.invariant.runs s r h in
    ended c.args.objects.now c.args.limit c.args.script.now s (parts c.loop-quiet.node) c.loop-quiet.counts
    (λ made. AreTold g.S.Sink.called g.S.Sink.state c.args.out.now c.loop-quiet.out c.args.node.now.show c.loop-quiet.node.tail made) c.loop-quiet.quiet u
    (c.loop-quiet.invariant.quiet u.now u.represents)
    (over_quiet c.args.limit c.args.script.now u.now c.loop-quiet.node.steps
    (sym (c.loop-quiet.invariant.quiet u.now u.represents)
    ∙ c.loop-quiet-test.false))

pub returns-after-loop-quiet-clause-whole : goal.returns-after-loop-quiet-clause-whole
returns-after-loop-quiet-clause-whole g c = λ s r h.
    let u = c.loop-quiet.invariant.runs s r h in
    (told_all c.args.objects.now c.args.limit c.args.script.now s (parts c.loop-quiet.node) c.loop-quiet.counts
    (λ made. AreTold g.S.Sink.called g.S.Sink.state c.args.out.now c.loop-quiet.out c.args.node.now.show c.loop-quiet.node.tail made) u
    (over_quiet c.args.limit c.args.script.now u.now c.loop-quiet.node.steps
    (sym (c.loop-quiet.invariant.quiet u.now u.represents)
    ∙ c.loop-quiet-test.false))).printed

pub returns-after-loop-quiet-clause-reached : goal.returns-after-loop-quiet-clause-reached
returns-after-loop-quiet-clause-reached g c = λ s r h.
    reached c.args.objects.now c.args.limit c.args.script.now s (parts c.loop-quiet.node) c.loop-quiet.counts
    (λ made. AreTold g.S.Sink.called g.S.Sink.state c.args.out.now c.loop-quiet.out c.args.node.now.show c.loop-quiet.node.tail made) (c.loop-quiet.invariant.runs s r h)

pub returns-after-loop-quiet-clause-holds : goal.returns-after-loop-quiet-clause-holds
returns-after-loop-quiet-clause-holds g c = λ s r h.
    let u = c.loop-quiet.invariant.runs s r h in
    kept_so_far c.args.objects.now c.args.limit c.args.script.now s (parts c.loop-quiet.node) c.loop-quiet.counts
    (λ made. AreTold g.S.Sink.called g.S.Sink.state c.args.out.now c.loop-quiet.out c.args.node.now.show c.loop-quiet.node.tail made) c.args.node.now.show c.loop-quiet.node.tail u u.told.holds

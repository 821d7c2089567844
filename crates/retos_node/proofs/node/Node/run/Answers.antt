use Rattle.std.proofs.Common.{List, ℕ, length, subst}
use Rattle.node_model.specs.Runs.{run}
use Rattle.retos_node.specs.Parts.{parts}
use Rattle.retos_node.specs.Printing.{Printed, PrintedUpTo}
use Rattle.retos_node.proofs.Course.{trace_is, none_kept_yet}
use Rattle.retos_node.proofs.Traced.{whole_lines, cut_placement, cut_records, cut_end, text_got, text_cut, placement_as, end_line_as, ran_up_to, ran, none_made}
use Rattle.retos_node.proofs.node.Node.run.Goals as goal

pub returns-in-Err-clause-prefix : goal.returns-in-Err-clause-prefix
returns-in-Err-clause-prefix g c = λ s r h. (
  ran_up_to (parts c.args.self.now) (parts c.args.self.now) c.args.objects.now c.args.limit c.args.script.now s (c.run_law.ensures c.args.script.now) c.requires.first c.requires.limit r h
      (none_made (parts c.args.self.now) c.args.objects.now c.args.limit c.args.script.now s c.requires.first r h),
  text_cut g.S.Sink.called g.S.Sink.state c.args.out.now c.print_placement.new.out c.args.self.now.show (length c.args.objects.now) c.args.script.now s (run c.args.limit c.args.script.now s) c.in-Err.fault
      (cut_placement g.S.Sink.called g.S.Sink.state c.args.out.now c.print_placement.new.out c.args.self.now.show (length c.args.objects.now) c.args.script.now s (run c.args.limit c.args.script.now s) c.in-Err.fault
      (subst (λ (l : List (List ℕ)). PrintedUpTo g.S.Sink.called g.S.Sink.state c.args.out.now c.print_placement.new.out l c.in-Err.fault) (placement_as (parts c.args.self.now) c.args.objects.now s c.len.result (length c.args.objects.now) c.len.ensures r) c.in-Err.ensures.prefix)),
)

pub returns-in-Err-clause-lines : goal.returns-in-Err-clause-lines
returns-in-Err-clause-lines g c = λ s r h. (
  trace_is c.args.self.now.show (length c.args.objects.now) c.args.script.now s (run c.args.limit c.args.script.now s),
  (cut_placement g.S.Sink.called g.S.Sink.state c.args.out.now c.print_placement.new.out c.args.self.now.show (length c.args.objects.now) c.args.script.now s (run c.args.limit c.args.script.now s) c.in-Err.fault
      (subst (λ (l : List (List ℕ)). PrintedUpTo g.S.Sink.called g.S.Sink.state c.args.out.now c.print_placement.new.out l c.in-Err.fault) (placement_as (parts c.args.self.now) c.args.objects.now s c.len.result (length c.args.objects.now) c.len.ensures r) c.in-Err.ensures.prefix)).writes,
)

pub returns-in-Err-run_steps-clause-prefix : goal.returns-in-Err-run_steps-clause-prefix
returns-in-Err-run_steps-clause-prefix g c = λ s r h. (
  ran_up_to (parts c.args.self.now) (parts c.run_steps.new.node) c.args.objects.now c.args.limit c.args.script.now s (c.run_law.ensures c.args.script.now) c.requires.first c.requires.limit r h
      (c.in-Err-run_steps.ensures.reached s r h),
  text_cut g.S.Sink.called g.S.Sink.state c.args.out.now c.run_steps.new.out c.args.self.now.show (length c.args.objects.now) c.args.script.now s (run c.args.limit c.args.script.now s) c.in-Err-run_steps.fault
      (cut_records g.S.Sink.called g.S.Sink.state c.args.out.now c.print_placement.new.out c.run_steps.new.out c.args.self.now.show (length c.args.objects.now) c.args.script.now s (run c.args.limit c.args.script.now s) c.in-Err-run_steps.fault
      (subst (λ (l : List (List ℕ)). Printed g.S.Sink.called g.S.Sink.state c.args.out.now c.print_placement.new.out l) (placement_as (parts c.args.self.now) c.args.objects.now s c.len.result (length c.args.objects.now) c.len.ensures r) c.in-Ok.ensures.whole)
      (c.in-Err-run_steps.ensures.prefix s r h)),
)

pub returns-in-Err-run_steps-clause-lines : goal.returns-in-Err-run_steps-clause-lines
returns-in-Err-run_steps-clause-lines g c = λ s r h. (
  trace_is c.args.self.now.show (length c.args.objects.now) c.args.script.now s (run c.args.limit c.args.script.now s),
  (cut_records g.S.Sink.called g.S.Sink.state c.args.out.now c.print_placement.new.out c.run_steps.new.out c.args.self.now.show (length c.args.objects.now) c.args.script.now s (run c.args.limit c.args.script.now s) c.in-Err-run_steps.fault
      (subst (λ (l : List (List ℕ)). Printed g.S.Sink.called g.S.Sink.state c.args.out.now c.print_placement.new.out l) (placement_as (parts c.args.self.now) c.args.objects.now s c.len.result (length c.args.objects.now) c.len.ensures r) c.in-Ok.ensures.whole)
      (c.in-Err-run_steps.ensures.prefix s r h)).writes,
)

pub returns-in-Err-print_line-clause-prefix : goal.returns-in-Err-print_line-clause-prefix
returns-in-Err-print_line-clause-prefix g c = λ s r h. (
  ran_up_to (parts c.args.self.now) (parts c.run_steps.new.node) c.args.objects.now c.args.limit c.args.script.now s (c.run_law.ensures c.args.script.now) c.requires.first c.requires.limit r h
      (c.in-Ok-run_steps.ensures.reached s r h),
  text_cut g.S.Sink.called g.S.Sink.state c.args.out.now c.print_line.new.out c.args.self.now.show (length c.args.objects.now) c.args.script.now s (run c.args.limit c.args.script.now s) c.in-Err-print_line.fault
      (cut_end g.S.Sink.called g.S.Sink.state c.args.out.now c.print_placement.new.out c.run_steps.new.out c.print_line.new.out c.args.self.now.show (length c.args.objects.now) c.args.script.now s (run c.args.limit c.args.script.now s) c.in-Err-print_line.fault
      (subst (λ (l : List (List ℕ)). Printed g.S.Sink.called g.S.Sink.state c.args.out.now c.print_placement.new.out l) (placement_as (parts c.args.self.now) c.args.objects.now s c.len.result (length c.args.objects.now) c.len.ensures r) c.in-Ok.ensures.whole)
      (c.in-Ok-run_steps.ensures.whole s r h)
      (subst (λ (l : List (List ℕ)). PrintedUpTo g.S.Sink.called g.S.Sink.state c.run_steps.new.out c.print_line.new.out l c.in-Err-print_line.fault) (end_line_as c.args.script.now (run c.args.limit c.args.script.now s) c.in-Ok-run_steps.ended.quiet c.run_steps.new.node.steps c.in-Ok-run_steps.ended.counts.emits
      c.in-Ok-run_steps.ended.counts.faults c.line.result c.as_slice.result.now c.as_slice.ensures c.line.ensures
      (c.in-Ok-run_steps.ensures.ended s r h).end) c.in-Err-print_line.ensures.prefix)),
)

pub returns-in-Err-print_line-clause-lines : goal.returns-in-Err-print_line-clause-lines
returns-in-Err-print_line-clause-lines g c = λ s r h. (
  trace_is c.args.self.now.show (length c.args.objects.now) c.args.script.now s (run c.args.limit c.args.script.now s),
  (cut_end g.S.Sink.called g.S.Sink.state c.args.out.now c.print_placement.new.out c.run_steps.new.out c.print_line.new.out c.args.self.now.show (length c.args.objects.now) c.args.script.now s (run c.args.limit c.args.script.now s) c.in-Err-print_line.fault
      (subst (λ (l : List (List ℕ)). Printed g.S.Sink.called g.S.Sink.state c.args.out.now c.print_placement.new.out l) (placement_as (parts c.args.self.now) c.args.objects.now s c.len.result (length c.args.objects.now) c.len.ensures r) c.in-Ok.ensures.whole)
      (c.in-Ok-run_steps.ensures.whole s r h)
      (subst (λ (l : List (List ℕ)). PrintedUpTo g.S.Sink.called g.S.Sink.state c.run_steps.new.out c.print_line.new.out l c.in-Err-print_line.fault) (end_line_as c.args.script.now (run c.args.limit c.args.script.now s) c.in-Ok-run_steps.ended.quiet c.run_steps.new.node.steps c.in-Ok-run_steps.ended.counts.emits
      c.in-Ok-run_steps.ended.counts.faults c.line.result c.as_slice.result.now c.as_slice.ensures c.line.ensures
      (c.in-Ok-run_steps.ensures.ended s r h).end) c.in-Err-print_line.ensures.prefix)).writes,
)

pub returns-in-Ok-print_line-clause-whole : goal.returns-in-Ok-print_line-clause-whole
returns-in-Ok-print_line-clause-whole g c = λ s r h. (
  c.end.ensures c.args.script.now (run c.args.limit c.args.script.now s) (c.in-Ok-run_steps.ensures.ended s r h).end,
  ran (parts c.args.self.now) (parts c.run_steps.new.node) c.args.objects.now c.args.limit c.args.script.now s c.in-Ok-run_steps.ended.quiet c.in-Ok-run_steps.ended.counts (c.run_law.ensures c.args.script.now) c.requires.first
      c.requires.limit r h (c.in-Ok-run_steps.ensures.ended s r h),
  text_got g.S.Sink.called g.S.Sink.state c.args.out.now c.print_line.new.out c.args.self.now.show (length c.args.objects.now) c.args.script.now s (run c.args.limit c.args.script.now s)
      (whole_lines g.S.Sink.called g.S.Sink.state c.args.out.now c.print_placement.new.out c.run_steps.new.out c.print_line.new.out c.args.self.now.show (length c.args.objects.now) c.args.script.now s (run c.args.limit c.args.script.now s)
      (subst (λ (l : List (List ℕ)). Printed g.S.Sink.called g.S.Sink.state c.args.out.now c.print_placement.new.out l) (placement_as (parts c.args.self.now) c.args.objects.now s c.len.result (length c.args.objects.now) c.len.ensures r) c.in-Ok.ensures.whole)
      (c.in-Ok-run_steps.ensures.whole s r h)
      (subst (λ (l : List (List ℕ)). Printed g.S.Sink.called g.S.Sink.state c.run_steps.new.out c.print_line.new.out l) (end_line_as c.args.script.now (run c.args.limit c.args.script.now s) c.in-Ok-run_steps.ended.quiet c.run_steps.new.node.steps c.in-Ok-run_steps.ended.counts.emits
      c.in-Ok-run_steps.ended.counts.faults c.line.result c.as_slice.result.now c.as_slice.ensures c.line.ensures
      (c.in-Ok-run_steps.ensures.ended s r h).end) c.in-Ok-print_line.ensures.whole)),
)

pub returns-in-Ok-print_line-clause-lines : goal.returns-in-Ok-print_line-clause-lines
returns-in-Ok-print_line-clause-lines g c = λ s r h. (
  trace_is c.args.self.now.show (length c.args.objects.now) c.args.script.now s (run c.args.limit c.args.script.now s),
  (whole_lines g.S.Sink.called g.S.Sink.state c.args.out.now c.print_placement.new.out c.run_steps.new.out c.print_line.new.out c.args.self.now.show (length c.args.objects.now) c.args.script.now s (run c.args.limit c.args.script.now s)
      (subst (λ (l : List (List ℕ)). Printed g.S.Sink.called g.S.Sink.state c.args.out.now c.print_placement.new.out l) (placement_as (parts c.args.self.now) c.args.objects.now s c.len.result (length c.args.objects.now) c.len.ensures r) c.in-Ok.ensures.whole)
      (c.in-Ok-run_steps.ensures.whole s r h)
      (subst (λ (l : List (List ℕ)). Printed g.S.Sink.called g.S.Sink.state c.run_steps.new.out c.print_line.new.out l) (end_line_as c.args.script.now (run c.args.limit c.args.script.now s) c.in-Ok-run_steps.ended.quiet c.run_steps.new.node.steps c.in-Ok-run_steps.ended.counts.emits
      c.in-Ok-run_steps.ended.counts.faults c.line.result c.as_slice.result.now c.as_slice.ensures c.line.ensures
      (c.in-Ok-run_steps.ensures.ended s r h).end) c.in-Ok-print_line.ensures.whole)).writes,
)

pub returns-in-Err-clause-locks : goal.returns-in-Err-clause-locks
returns-in-Err-clause-locks g c =
    c.locks_law.ensures (parts c.args.self.now) c.args.objects.now c.args.limit c.args.script.now c.requires.first c.requires.limit

pub returns-in-Err-run_steps-clause-locks : goal.returns-in-Err-run_steps-clause-locks
returns-in-Err-run_steps-clause-locks g c =
    c.locks_law.ensures (parts c.args.self.now) c.args.objects.now c.args.limit c.args.script.now c.requires.first c.requires.limit

pub returns-in-Ok-print_line-clause-locks : goal.returns-in-Ok-print_line-clause-locks
returns-in-Ok-print_line-clause-locks g c =
    c.locks_law.ensures (parts c.args.self.now) c.args.objects.now c.args.limit c.args.script.now c.requires.first c.requires.limit

pub returns-in-Err-print_line-clause-locks : goal.returns-in-Err-print_line-clause-locks
returns-in-Err-print_line-clause-locks g c =
    c.locks_law.ensures (parts c.args.self.now) c.args.objects.now c.args.limit c.args.script.now c.requires.first c.requires.limit

pub returns-in-Err-clause-holds : goal.returns-in-Err-clause-holds
returns-in-Err-clause-holds g c = λ s r h.
    none_kept_yet (parts c.args.self.now) c.args.script.now s c.args.self.now.show c.args.self.now.tail c.requires.first c.requires.fresh

pub returns-in-Err-run_steps-clause-holds : goal.returns-in-Err-run_steps-clause-holds
returns-in-Err-run_steps-clause-holds g c = c.run_steps.ensures.holds

pub returns-in-Err-print_line-clause-holds : goal.returns-in-Err-print_line-clause-holds
returns-in-Err-print_line-clause-holds g c = c.run_steps.ensures.holds

pub returns-in-Ok-print_line-clause-holds : goal.returns-in-Ok-print_line-clause-holds
returns-in-Ok-print_line-clause-holds g c = c.run_steps.ensures.holds

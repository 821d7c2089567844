use Rattle.std.proofs.Common.{◌+◌, List, ℕ, sym, ◌∙◌, subst, arith}
use Rattle.std.proofs.lemmas.Bool.{eq-eqb, ne_eqb}
use Rattle.kernel_model.specs.Kernel.{with_ready}
use Rattle.kernel_model.specs.Layout.{kernel_of}
use Rattle.kernel_model.specs.Queues.{Leaves, QueuesHold}
use Rattle.kernel_threads.proofs.LeavingLemmas.{part_left}
use Rattle.kernel_threads.proofs.LeavingSteps.{is_ready_list, left_none, left_there, left_taken, left_kept, left_all}
use Rattle.kernel_threads.proofs.leaving.leave_ready.Goals as goal
use Rattle.kernel_threads.proofs.leaving.leave_ready.Goals.{then-t-a, else-t-a}

pub loop-t-init : goal.loop-t-init
loop-t-init c = record {
  queues = c.requires;
  left = left_none (λ k. k.ready) with_ready is_ready_list c.args.m.now c.args.a c.as_slice-t-items.result.now (c.as_slice-t-items.ensures.value ∙ c.ready-list.ensures);
}

pub ready_take-requires-clause-there : goal.ready_take-requires-clause-there
ready_take-requires-clause-there c =
    left_there (λ k. k.ready) with_ready is_ready_list c.args.m.now c.loop-t.m c.args.a c.loop-t.t-index c.as_slice-t-items.result.now (omega arith) c.loop-t.invariant.left

pub loop-t-preserved : goal.loop-t-preserved
loop-t-preserved c =
    let m : List ℕ = c.args.m.now in
    let xs : List ℕ = c.as_slice-t-items.result.now in
    elim c.if-t-a.branch [
      | then-t-a w ↦ record {
        queues = subst (λ (n : List ℕ). QueuesHold n) (sym w.m-is) w.ready_take.ensures.queues;
        left = subst (λ (n : List ℕ). Leaves m n (with_ready (kernel_of m) (part_left c.args.a xs (c.loop-t.t-index + 1)))) (sym w.m-is)
            (left_taken (λ k. k.ready) with_ready is_ready_list m c.loop-t.m w.ready_take.new.m c.args.a c.loop-t.t-index xs (omega arith)
            (eq-eqb _ _ w.if-t-a.true) c.loop-t.invariant.left w.ready_take.ensures.leaves);
      }
      | else-t-a w ↦ record {
        queues = subst (λ (n : List ℕ). QueuesHold n) (sym w.m-is) c.loop-t.invariant.queues;
        left = subst (λ (n : List ℕ). Leaves m n (with_ready (kernel_of m) (part_left c.args.a xs (c.loop-t.t-index + 1)))) (sym w.m-is)
            (left_kept (λ k. k.ready) with_ready is_ready_list m c.loop-t.m c.args.a c.loop-t.t-index xs (omega arith) (ne_eqb _ _ w.if-t-a.false) c.loop-t.invariant.left);
      }
    ]

pub returns : goal.returns
returns c =
    left_all (λ k. k.ready) with_ready is_ready_list c.args.m.now c.loop-t.m c.args.a c.loop-t.t-index c.as_slice-t-items.result.now (omega arith)
    (c.as_slice-t-items.ensures.value ∙ c.ready-list.ensures) c.loop-t.invariant.left

use Rattle.std.proofs.Common.{◌≡◌, ◌↔◌, ℕ, ◌/◌, true, List, get_or, Some, None, IsTrue, sym, ap, ◌∙◌, subst, arith}
use Rattle.std.specs.List.{slice_get}
use Rattle.kernel_model.specs.Kernel.{Kernel}
use Rattle.kernel_model.specs.Words.{running, app_of}
use Rattle.kernel_model.specs.Layout.{kernel_of}
use Rattle.kernel_model.specs.Queues.{Leaves}
use Rattle.kernel_model.specs.Starting.{begun, free_threads}
use Rattle.place_model.specs.Marking.{IsOwnMark}
use Rattle.kernel_threads.proofs.EntryLemmas.{spawned_by, full_by, begun_as}
use Rattle.kernel_threads.proofs.entries.spawn.Goals as goal

pub returns-in-Some-clause-answer : goal.returns-in-Some-clause-answer
returns-in-Some-clause-answer c =
    let m : List ℕ = c.args.m.now in
    let k : Kernel = kernel_of m in
    let r : List ℕ = c.args.r.now in
    let first : slice_get (free_threads k (app_of (running k))) 0 ≡ Some c.in-Some.t =
    ap (λ (t : ℕ). slice_get (free_threads k (t / 4)) 0) (sym c.running-a.ensures) ∙ sym c.in-Some.ensures.first in
    let left : Leaves m c.begin.new.m (begun k c.in-Some.t (get_or r 12 0) (get_or r 13 0) (get_or r 14 0)) =
    begun_as m c.begin.new.m c.in-Some.t c.get-entry.result c.get-priority.result c.get.result (get_or r 12 0) (get_or r 13 0) (get_or r 14 0)
    c.get-entry.ensures c.get-priority.ensures c.get.ensures c.begin.ensures.leaves in (
      true,
      record {
        marked = subst (λ (at : ℕ). IsTrue true ↔ IsOwnMark m at) c.get-entry.ensures c.if-not-is_own_mark.ensures;
        by_code = spawned_by m c.begin.new.m r c.in-Some.t (omega arith) first left;
      },
    )

pub returns-in-None-clause-answer : goal.returns-in-None-clause-answer
returns-in-None-clause-answer c =
    let m : List ℕ = c.args.m.now in
    let k : Kernel = kernel_of m in
    let none : slice_get (free_threads k (app_of (running k))) 0 ≡ None =
    ap (λ (t : ℕ). slice_get (free_threads k (t / 4)) 0) (sym c.running-a.ensures) ∙ sym c.in-None.ensures.first in (
      true,
      record {
        marked = subst (λ (at : ℕ). IsTrue true ↔ IsOwnMark m at) c.get-entry.ensures c.if-not-is_own_mark.ensures;
        by_code = full_by m c.args.r.now (omega arith) none;
      },
    )

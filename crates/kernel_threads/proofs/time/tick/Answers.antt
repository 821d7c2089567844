use Rattle.std.proofs.Common.{◌+◌, List, ℕ, take, sym, subst, ap}
use Rattle.kernel_model.specs.Kernel.{Kernel}
use Rattle.kernel_model.specs.Layout.{kernel_of}
use Rattle.kernel_model.specs.Waking.{ticked}
use Rattle.thread_laws.specs.Wakings.{Ticks}
use Rattle.kernel_threads.proofs.ChainLemmas.{settled_by}
use Rattle.kernel_threads.proofs.TickLemmas.{tick_put, due_are, due_first, due_unlisted, ticked_left}
use Rattle.kernel_threads.proofs.time.tick.Goals as goal

pub leave_first-requires-clause-first : goal.leave_first-requires-clause-first
leave_first-requires-clause-first c =
    let m : List ℕ = c.args.m.now in
    let now : ℕ = c.tick_number-now.result + 1 in
    let at = tick_put m c.put.new.m c.put-2.new.m now (ap (λ n. n + 1) c.tick_number-now.ensures) c.put.ensures c.put-2.ensures in
    due_first m c.put-2.new.m now (take c.first_later.result c.as_slice.result.now) at
    (due_are m c.put-2.new.m now c.first_later.result c.sleepers-list.result.items c.as_slice.result.now c.as_slice-2.result.now at c.sleepers-list.ensures c.as_slice.ensures.value
    c.as_slice-2.ensures.value c.first_later.ensures.value)

pub each_ready-requires-clause-unlisted : goal.each_ready-requires-clause-unlisted
each_ready-requires-clause-unlisted c =
    let m : List ℕ = c.args.m.now in
    let now : ℕ = c.tick_number-now.result + 1 in
    let at = tick_put m c.put.new.m c.put-2.new.m now (ap (λ n. n + 1) c.tick_number-now.ensures) c.put.ensures c.put-2.ensures in
    due_unlisted m c.put-2.new.m c.leave_first.new.m now (take c.first_later.result c.as_slice.result.now) c.sleepers_may_wake.ensures c.requires.settled.kernel.orderly at
    (due_are m c.put-2.new.m now c.first_later.result c.sleepers-list.result.items c.as_slice.result.now c.as_slice-2.result.now at c.sleepers-list.ensures c.as_slice.ensures.value
    c.as_slice-2.ensures.value c.first_later.ensures.value) c.leave_first.ensures

pub returns-clause-leaves : goal.returns-clause-leaves
returns-clause-leaves c =
    let m : List ℕ = c.args.m.now in
    let now : ℕ = c.tick_number-now.result + 1 in
    let at = tick_put m c.put.new.m c.put-2.new.m now (ap (λ n. n + 1) c.tick_number-now.ensures) c.put.ensures c.put-2.ensures in
    ticked_left m c.put-2.new.m c.leave_first.new.m c.each_ready.new.m now (take c.first_later.result c.as_slice.result.now) at
    (due_are m c.put-2.new.m now c.first_later.result c.sleepers-list.result.items c.as_slice.result.now c.as_slice-2.result.now at c.sleepers-list.ensures c.as_slice.ensures.value
    c.as_slice-2.ensures.value c.first_later.ensures.value) c.leave_first.ensures c.each_ready.ensures

pub returns-clause-wakes : goal.returns-clause-wakes
returns-clause-wakes c =
    subst (λ (j : Kernel). Ticks (kernel_of c.args.m.now) j) (sym (returns-clause-leaves c).kernel)
    (c.tick_wakes_the_due.ensures (kernel_of c.args.m.now) c.requires.settled.kernel)

pub returns-clause-settled : goal.returns-clause-settled
returns-clause-settled c =
    settled_by c.args.m.now c.each_ready.new.m (ticked (kernel_of c.args.m.now)) c.requires.settled (returns-clause-leaves c)
    (c.ticked_is_settled.ensures (kernel_of c.args.m.now) c.requires.settled.kernel)

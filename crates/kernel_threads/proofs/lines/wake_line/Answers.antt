use Rattle.std.proofs.Common.{List, ℕ, sym, subst}
use Rattle.kernel_model.specs.Kernel.{Kernel, line_at}
use Rattle.kernel_model.specs.Layout.{kernel_of}
use Rattle.kernel_model.specs.Waking.{woken_line}
use Rattle.thread_laws.specs.Wakings.{LineWakes}
use Rattle.kernel_threads.proofs.ChainLemmas.{settled_by, leaves_as, leaves_same}
use Rattle.kernel_threads.proofs.TickLemmas.{nobody_is, nobody_woken, woken_unlisted, woken_left}
use Rattle.kernel_threads.proofs.lines.wake_line.Goals as goal

pub returns-then-is_empty-clause-leaves : goal.returns-then-is_empty-clause-leaves
returns-then-is_empty-clause-leaves c =
    let m : List ℕ = c.args.m.now in
    leaves_as m m (kernel_of m) (woken_line (kernel_of m) c.args.number)
    (nobody_woken (kernel_of m) c.args.number (nobody_is c.line-list.result.items (line_at (kernel_of m) c.args.number) c.if-is_empty.ensures c.line-list.ensures)) (leaves_same m)

pub returns-then-is_empty-clause-wakes : goal.returns-then-is_empty-clause-wakes
returns-then-is_empty-clause-wakes c =
    subst (λ (j : Kernel). LineWakes (kernel_of c.args.m.now) j c.args.number) (sym (returns-then-is_empty-clause-leaves c).kernel)
    (c.line_wakes_its_waiters.ensures (kernel_of c.args.m.now) c.args.number c.requires.settled.kernel c.requires.number)

pub each_ready-requires-clause-unlisted : goal.each_ready-requires-clause-unlisted
each_ready-requires-clause-unlisted c =
    woken_unlisted c.args.m.now c.set_line.new.m c.args.number c.line-list.result.items c.as_slice.result.now c.new.result.items
    (c.waiters_may_wake.ensures (kernel_of c.args.m.now) c.args.number c.requires.settled.kernel.orderly c.requires.number) c.line-list.ensures c.as_slice.ensures.value c.set_line.ensures

pub returns-clause-leaves : goal.returns-clause-leaves
returns-clause-leaves c =
    woken_left c.args.m.now c.set_line.new.m c.each_ready.new.m c.args.number c.line-list.result.items c.as_slice.result.now c.new.result.items c.line-list.ensures c.as_slice.ensures.value
    c.new.ensures c.set_line.ensures c.each_ready.ensures

pub returns-clause-wakes : goal.returns-clause-wakes
returns-clause-wakes c =
    subst (λ (j : Kernel). LineWakes (kernel_of c.args.m.now) j c.args.number) (sym (returns-clause-leaves c).kernel)
    (c.line_wakes_its_waiters.ensures (kernel_of c.args.m.now) c.args.number c.requires.settled.kernel c.requires.number)

pub returns-clause-settled : goal.returns-clause-settled
returns-clause-settled c =
    settled_by c.args.m.now c.each_ready.new.m (woken_line (kernel_of c.args.m.now) c.args.number) c.requires.settled (returns-clause-leaves c)
    (c.woken_line_is_settled.ensures (kernel_of c.args.m.now) c.args.number c.requires.settled.kernel c.requires.number)

use Rattle.std.proofs.Common.{ℕ, List, take, drop, ap, ◌∙◌}
use Rattle.kernel_model.specs.Kernel.{Kernel, condition_at}
use Rattle.kernel_model.specs.Layout.{kernel_of}
use Rattle.kernel_model.specs.Sync.{woken}
use Rattle.kernel_threads.proofs.ChainLemmas.{settled_by}
use Rattle.kernel_sync.proofs.RuleLemmas.{rest_below, woken_left, runs_by, keeps_by}
use Rattle.kernel_sync.proofs.conditions.wake.Goals as goal

pub set_cond-requires-clause-members : goal.set_cond-requires-clause-members
set_cond-requires-clause-members c =
    let k : Kernel = kernel_of c.args.m.now in
    rest_below (condition_at k c.own_app-a.result c.args.c) c.behind-rest.result.items c.args.count
    (c.waiters_are_numbers.ensures k c.own_app-a.result c.args.c c.requires.settled.kernel c.own_app-a.ensures.below c.requires.number).1
    (c.behind-rest.ensures ∙ ap (λ (xs : List ℕ). drop c.args.count xs) c.cond-going.ensures)

pub returns-clause-leaves : goal.returns-clause-leaves
returns-clause-leaves c =
    woken_left c.args.m.now c.set_cond.new.m c.each_goes.new.m c.own_app-a.result c.args.c c.args.count c.behind-rest.result.items c.as_slice.result.now c.own_app-a.ensures.value
    (c.behind-rest.ensures ∙ ap (λ (xs : List ℕ). drop c.args.count xs) c.cond-going.ensures)
    (c.as_slice.ensures.value ∙ c.truncate.ensures.items ∙ ap (λ (xs : List ℕ). take c.args.count xs) c.cond-going.ensures)
    c.set_cond.ensures c.each_goes.ensures

pub returns-clause-runs : goal.returns-clause-runs
returns-clause-runs c =
    let k : Kernel = kernel_of c.args.m.now in
    runs_by c.args.m.now c.each_goes.new.m (woken k c.args.c c.args.count) (returns-clause-leaves c) (c.waking_keeps_locks.ensures.runs k c.args.c c.args.count)

pub returns-clause-locks : goal.returns-clause-locks
returns-clause-locks c =
    let k : Kernel = kernel_of c.args.m.now in
    keeps_by c.args.m.now c.each_goes.new.m (woken k c.args.c c.args.count) (returns-clause-leaves c)
    (c.waking_keeps_locks.ensures.keeps k c.args.c c.args.count c.requires.settled.kernel c.requires.runs c.requires.number)

pub returns-clause-settled : goal.returns-clause-settled
returns-clause-settled c =
    let k : Kernel = kernel_of c.args.m.now in
    settled_by c.args.m.now c.each_goes.new.m (woken k c.args.c c.args.count) c.requires.settled (returns-clause-leaves c)
    (c.woken_is_settled.ensures k c.args.c c.args.count c.requires.settled.kernel c.requires.runs c.requires.number)

use Rattle.std.proofs.Common.{◌∙◌, ◌≡◌, arith}
use Rattle.std.proofs.lemmas.Bool.{eqb-false}
use Rattle.kernel_model.specs.Kernel.{Kernel}
use Rattle.kernel_model.specs.Words.{owner_of}
use Rattle.kernel_model.specs.Layout.{kernel_of}
use Rattle.kernel_model.specs.Sync.{locked, own_app, own_number}
use Rattle.kernel_threads.proofs.ChainLemmas.{settled_by}
use Rattle.kernel_sync.proofs.RuleLemmas.{takes, waits, owner_now, keeps_by}
use Rattle.kernel_sync.proofs.mutexes.take_or_wait.Goals as goal

pub returns-then-row-clause-leaves : goal.returns-then-row-clause-leaves
returns-then-row-clause-leaves c =
    let number : c.from.result ≡ c.own_number-n.result = omega arith in
    takes c.args.m.now c.set_mutex.new.m c.own_app-a.result c.args.i c.from.result c.mutex-row.result c.own_app-a.ensures.value (number ∙ c.own_number-n.ensures.value) c.mutex-row.ensures c.if-row.true c.set_mutex.ensures

pub returns-then-row-clause-owned : goal.returns-then-row-clause-owned
returns-then-row-clause-owned c _ =
    let number : c.from.result ≡ c.own_number-n.result = omega arith in
    owner_now c.args.m.now c.set_mutex.new.m c.own_app-a.result c.args.i c.from.result c.mutex-row.result c.own_app-a.ensures.value c.own_app-a.ensures.below c.requires.number (number ∙ c.own_number-n.ensures.value)
    c.requires.settled.kernel.orderly.shape.mutex_rows c.set_mutex.ensures

pub returns-then-row-clause-locks : goal.returns-then-row-clause-locks
returns-then-row-clause-locks c =
    keeps_by c.args.m.now c.set_mutex.new.m (locked (kernel_of c.args.m.now) c.args.i) (returns-then-row-clause-leaves c)
    (c.locking_keeps_locks.ensures (kernel_of c.args.m.now) c.args.i c.requires.settled.kernel c.requires.runs c.requires.number)

pub returns-then-row-clause-settled : goal.returns-then-row-clause-settled
returns-then-row-clause-settled c =
    let k : Kernel = kernel_of c.args.m.now in
    settled_by c.args.m.now c.set_mutex.new.m (locked k c.args.i) c.requires.settled (returns-then-row-clause-leaves c)
    (c.locked_is_settled.ensures k c.args.i c.requires.settled.kernel c.requires.runs c.requires.number (eqb-false (owner_of k (own_app k) c.args.i) (own_number k) c.requires.other))

pub returns-else-row-clause-leaves : goal.returns-else-row-clause-leaves
returns-else-row-clause-leaves c =
    waits c.args.m.now c.join_waiters.new.m c.run_none.new.m c.own_app-a.result c.args.i c.own_number-n.result c.mutex-row.result c.own_app-a.ensures.value c.own_number-n.ensures.value c.mutex-row.ensures c.if-row.false
    c.join_waiters.ensures c.run_none.ensures

pub returns-else-row-clause-locks : goal.returns-else-row-clause-locks
returns-else-row-clause-locks c =
    keeps_by c.args.m.now c.run_none.new.m (locked (kernel_of c.args.m.now) c.args.i) (returns-else-row-clause-leaves c)
    (c.locking_keeps_locks.ensures (kernel_of c.args.m.now) c.args.i c.requires.settled.kernel c.requires.runs c.requires.number)

pub returns-else-row-clause-settled : goal.returns-else-row-clause-settled
returns-else-row-clause-settled c =
    let k : Kernel = kernel_of c.args.m.now in
    settled_by c.args.m.now c.run_none.new.m (locked k c.args.i) c.requires.settled (returns-else-row-clause-leaves c)
    (c.locked_is_settled.ensures k c.args.i c.requires.settled.kernel c.requires.runs c.requires.number (eqb-false (owner_of k (own_app k) c.args.i) (own_number k) c.requires.other))

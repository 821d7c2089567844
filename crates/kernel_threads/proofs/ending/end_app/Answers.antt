use Rattle.std.proofs.Common.{subst, sym}
use Rattle.kernel_model.specs.Kernel.{Kernel}
use Rattle.kernel_model.specs.Locks.{EndsLocks}
use Rattle.kernel_model.specs.Layout.{kernel_of}
use Rattle.kernel_model.specs.Ending.{ended}
use Rattle.kernel_threads.proofs.ChainLemmas.{settled_by}
use Rattle.kernel_threads.proofs.EndingLemmas.{end_left, ended_running, ended_elsewhere, line_identities}
use Rattle.kernel_threads.proofs.ending.end_app.Goals as goal

pub end_threads-requires-clause-lines : goal.end_threads-requires-clause-lines
end_threads-requires-clause-lines c = λ n h. line_identities (kernel_of c.args.m.now) c.requires.settled.kernel.orderly n

pub returns-then-runs-clause-leaves : goal.returns-then-runs-clause-leaves
returns-then-runs-clause-leaves c =
    ended_running c.args.m.now c.set_end.new.m c.run_none.new.m c.args.app c.args.how (sym c.if-runs.ensures)
    (end_left c.args.m.now c.end_threads.new.m c.end_waits.new.m c.set_end.new.m c.args.app c.args.how c.end_threads.ensures c.end_waits.ensures c.set_end.ensures)
    c.run_none.ensures

pub returns-then-runs-clause-settled : goal.returns-then-runs-clause-settled
returns-then-runs-clause-settled c =
    settled_by c.args.m.now c.run_none.new.m (ended (kernel_of c.args.m.now) c.args.app c.args.how) c.requires.settled (returns-then-runs-clause-leaves c)
    (c.ended_is_settled.ensures (kernel_of c.args.m.now) c.args.app c.args.how c.requires.settled.kernel c.requires.number c.requires.alive c.requires.no_module)

pub returns-else-runs-clause-leaves : goal.returns-else-runs-clause-leaves
returns-else-runs-clause-leaves c =
    ended_elsewhere c.args.m.now c.set_end.new.m c.args.app c.args.how (sym c.if-runs.ensures)
    (end_left c.args.m.now c.end_threads.new.m c.end_waits.new.m c.set_end.new.m c.args.app c.args.how c.end_threads.ensures c.end_waits.ensures c.set_end.ensures)

pub returns-else-runs-clause-settled : goal.returns-else-runs-clause-settled
returns-else-runs-clause-settled c =
    settled_by c.args.m.now c.set_end.new.m (ended (kernel_of c.args.m.now) c.args.app c.args.how) c.requires.settled (returns-else-runs-clause-leaves c)
    (c.ended_is_settled.ensures (kernel_of c.args.m.now) c.args.app c.args.how c.requires.settled.kernel c.requires.number c.requires.alive c.requires.no_module)

pub returns-then-runs-clause-locks : goal.returns-then-runs-clause-locks
returns-then-runs-clause-locks c =
    subst (λ (j : Kernel). EndsLocks (kernel_of c.args.m.now) j c.args.app) (sym (returns-then-runs-clause-leaves c).kernel)
    (c.end_frees_locks.ensures (kernel_of c.args.m.now) c.args.app c.args.how c.requires.settled.kernel c.requires.number)

pub returns-else-runs-clause-locks : goal.returns-else-runs-clause-locks
returns-else-runs-clause-locks c =
    subst (λ (j : Kernel). EndsLocks (kernel_of c.args.m.now) j c.args.app) (sym (returns-else-runs-clause-leaves c).kernel)
    (c.end_frees_locks.ensures (kernel_of c.args.m.now) c.args.app c.args.how c.requires.settled.kernel c.requires.number)

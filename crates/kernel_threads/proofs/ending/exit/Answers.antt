use Rattle.kernel_model.specs.Layout.{kernel_of}
use Rattle.kernel_model.specs.Ending.{exited}
use Rattle.kernel_threads.proofs.ChainLemmas.{settled_by}
use Rattle.kernel_threads.proofs.ExitLemmas.{exited_last, exited_other}
use Rattle.kernel_threads.proofs.ending.exit.Goals as goal

pub returns-then-last-clause-leaves : goal.returns-then-last-clause-leaves
returns-then-last-clause-leaves c =
    exited_last c.args.m.now c.end_app.new.m c.running-t.result c.running-t.ensures c.if-last.ensures c.end_app.ensures.leaves

pub returns-else-last-clause-leaves : goal.returns-else-last-clause-leaves
returns-else-last-clause-leaves c =
    exited_other c.args.m.now c.set_thread.new.m c.run_none.new.m c.running-t.result c.running-t.ensures c.if-last.ensures c.set_thread.ensures.leaves c.run_none.ensures

pub returns-else-last-clause-settled : goal.returns-else-last-clause-settled
returns-else-last-clause-settled c =
    settled_by c.args.m.now c.run_none.new.m (exited (kernel_of c.args.m.now)) c.requires.settled (returns-else-last-clause-leaves c)
    (c.exited_is_settled.ensures (kernel_of c.args.m.now) c.requires.settled.kernel c.requires.runs c.requires.owns_none)

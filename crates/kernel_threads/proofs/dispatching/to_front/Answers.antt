use Rattle.std.proofs.Common.{rules}
use Rattle.kernel_model.specs.Layout.{kernel_of}
use Rattle.kernel_model.specs.Dispatching.{moved_to_front}
use Rattle.kernel_threads.proofs.ChainLemmas.{settled_by}
use Rattle.kernel_threads.proofs.dispatching.to_front.Goals as goal

pub returns-clause-leaves : goal.returns-clause-leaves
returns-clause-leaves c = search rules

pub returns-clause-settled : goal.returns-clause-settled
returns-clause-settled c =
    settled_by c.args.m.now c.run_none.new.m (moved_to_front (kernel_of c.args.m.now)) c.requires.settled (returns-clause-leaves c)
    (c.front_is_settled.ensures (kernel_of c.args.m.now) c.requires.settled.kernel c.requires.runs)

use Rattle.kernel_model.specs.Layout.{kernel_of}
use Rattle.retos_node.proofs.RunnerLemmas.{thread_below}
use Rattle.retos_node.proofs.turns.runners_are_known.Goals as goal

pub returns-clause-thread : goal.returns-clause-thread
returns-clause-thread c = thread_below (kernel_of c.args.m.now) c.requires.kernel.orderly

use Rattle.std.proofs.Common.{rules}
use Rattle.kernel_model.specs.Layout.{kernel_of}
use Rattle.kernel_model.specs.Starting.{begun}
use Rattle.kernel_threads.proofs.ChainLemmas.{settled_by}
use Rattle.kernel_threads.proofs.StackLemmas.{beginning_stack}
use Rattle.kernel_threads.proofs.starting.begin.Goals as goal

pub stack_high-requires-clause-stack : goal.stack_high-requires-clause-stack
stack_high-requires-clause-stack c = beginning_stack (kernel_of c.args.m.now) c.args.t c.requires.settled.kernel c.requires.begins

pub returns-clause-leaves : goal.returns-clause-leaves
returns-clause-leaves c = search rules

pub returns-clause-settled : goal.returns-clause-settled
returns-clause-settled c =
    settled_by c.args.m.now c.get_ready.new.m (begun (kernel_of c.args.m.now) c.args.t c.args.pc c.args.priority c.args.r12) c.requires.settled (returns-clause-leaves c)
    (c.begun_is_settled.ensures (kernel_of c.args.m.now) c.args.t c.args.pc c.args.priority c.args.r12 c.requires.settled.kernel c.requires.begins c.requires.priority)

use Rattle.std.proofs.Common.{subst, sym}
use Rattle.kernel_model.specs.Kernel.{Kernel}
use Rattle.kernel_model.specs.Layout.{kernel_of}
use Rattle.kernel_threads.specs.Stacks.{HasStack}
use Rattle.kernel_threads.proofs.StackLemmas.{ready_stack}
use Rattle.kernel_threads.proofs.dispatching.run_ready.Goals as goal

pub run-requires-clause-stack : goal.run-requires-clause-stack
run-requires-clause-stack c =
    let k : Kernel = kernel_of c.args.m.now in
    let stack : HasStack k c.args.t = ready_stack k c.args.t c.requires.settled.kernel (c.ready_thread.ensures k c.requires.settled.kernel.orderly c.args.t c.requires.there) in
    subst (λ (j : Kernel). HasStack j c.args.t) (sym c.set_thread.ensures.leaves.kernel) (subst (λ (j : Kernel). HasStack j c.args.t) (sym c.ready_take.ensures.leaves.kernel) stack)

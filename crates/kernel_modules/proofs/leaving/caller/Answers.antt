use Rattle.std.proofs.Common.{ℕ, ◌<◌, sym, subst}
use Rattle.kernel_model.specs.Kernel.{Kernel}
use Rattle.kernel_model.specs.Layout.{kernel_of}
use Rattle.kernel_threads.specs.Stacks.{HasStack}
use Rattle.kernel_modules.proofs.LeavingLemmas.{caller_has}
use Rattle.kernel_modules.proofs.leaving.caller.Goals as goal

pub running-requires : goal.running-requires
running-requires c = (caller_has (kernel_of c.args.m.now) c.requires.settled.kernel c.requires.module_runs).number

pub returns-clause-below : goal.returns-clause-below
returns-clause-below c =
    subst (λ (t : ℕ). t < 32) (sym c.running.ensures) (caller_has (kernel_of c.args.m.now) c.requires.settled.kernel c.requires.module_runs).number

pub returns-clause-stack : goal.returns-clause-stack
returns-clause-stack c =
    let k : Kernel = kernel_of c.args.m.now in
    subst (λ (t : ℕ). HasStack k t) (sym c.running.ensures) (caller_has k c.requires.settled.kernel c.requires.module_runs).stack

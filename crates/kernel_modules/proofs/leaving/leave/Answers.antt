use Rattle.std.proofs.Common.{sym, subst}
use Rattle.kernel_model.specs.Kernel.{Kernel}
use Rattle.kernel_threads.specs.Stacks.{HasStack}
use Rattle.kernel_modules.proofs.leaving.leave.Goals as goal

pub end_call-requires-clause-stack : goal.end_call-requires-clause-stack
end_call-requires-clause-stack c =
    subst (λ (j : Kernel). HasStack j c.caller-t.result) (sym c.set_register-2.ensures.leaves.kernel)
    (subst (λ (j : Kernel). HasStack j c.caller-t.result) (sym c.set_register.ensures.leaves.kernel) c.caller-t.ensures.stack)

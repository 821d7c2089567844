-- The caller of a running module, which runs again.
use Rattle.std.proofs.Common.{◌≢◌, ℕ, ◌<◌, List, refl, sym, subst, arith}
use Rattle.kernel_model.specs.Kernel.{Kernel}
use Rattle.kernel_model.specs.Layout.{kernel_of}
use Rattle.kernel_model.specs.Modules.{call_ended}
use Rattle.kernel_model.specs.Queues.{Leaves}
use Rattle.kernel_model.specs.Running.{ThreadRuns}
use Rattle.kernel_model.specs.Words.{none, running, running_module}
use Rattle.place_model.specs.Settled.{IsSettledKernel}
use Rattle.kernel_threads.specs.Stacks.{HasStack}
use Rattle.kernel_threads.proofs.StackLemmas.{live_stack}
use Rattle.module_laws.proofs.CallRules.{IsCaller, caller_is}

-- it is a thread with a stack
pub record HasCaller (k : Kernel) : Type 0 where
  pub number : running k < 32
  pub stack : HasStack k (running k)

pub caller_has : (k : Kernel) → IsSettledKernel k → running_module k ≢ none → HasCaller k
caller_has k h n =
    let is : IsCaller k = caller_is k h.orderly n in
    record {
      number = is.below;
      stack = live_stack k (running k) h is.below (λ e. absurd (omega (arith, is.live.alive, e))) is.live.number;
    }

-- it runs where the kernel that is left is one whose call ended
pub caller_runs : (m m' : List ℕ) (j : Kernel) → running j < 32 → Leaves m m' (call_ended j) → ThreadRuns (kernel_of m')
caller_runs m m' j below l = subst (λ (k : Kernel). ThreadRuns k) (sym l.kernel) record { thread = below; no_module = refl }

-- Who runs, and the contexts that the kernel makes.
use Rattle.std.specs.Prelude.{◌≡◌, ℕ, ◌+◌, ◌<◌, ◌==◌, if◌then◌else◌, List, [], ◌∷◌}
use Rattle.kernel_model.specs.declared.map.TheConstants.{IDLE, KERNEL_TOP}
use Rattle.kernel_model.specs.declared.status.TheConstants.{GIE}
use Rattle.kernel_model.specs.Kernel.{Kernel}
use Rattle.kernel_model.specs.Words.{none, running, running_module, app_of}

-- a thread runs, and no module does
pub record ThreadRuns (k : Kernel) : Type 0 where
  pub thread : running k < 32
  pub no_module : running_module k ≡ none

-- no thread runs, and no module does
pub record NoneRuns (k : Kernel) : Type 0 where
  pub no_thread : running k ≡ none
  pub no_module : running_module k ≡ none

-- the number of the domain that runs: 8 plus the module's, or that of the running thread's application
abbrev pub running_domain : Kernel → ℕ
running_domain k = if running_module k == none then app_of (running k) else 8 + running_module k

-- a thread or a module runs
abbrev pub DomainRuns : Kernel → Type 0
DomainRuns k = running_domain k < 12

-- a new thread's registers: all 0 but PC, SP, SR, where interrupts are allowed, and R12
abbrev pub new_context : (pc sp r12 : ℕ) → List ℕ
new_context pc sp r12 = pc ∷ sp ∷ GIE ∷ 0 ∷ 0 ∷ 0 ∷ 0 ∷ 0 ∷ 0 ∷ 0 ∷ 0 ∷ 0 ∷ r12 ∷ 0 ∷ 0 ∷ 0 ∷ []

-- those of the machine that idles
abbrev pub idle_context : List ℕ
idle_context = new_context IDLE KERNEL_TOP 0

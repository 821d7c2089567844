-- What a step leaves of the other applications.
use Rattle.std.specs.Prelude.{◌≡◌, ℕ, ◌+◌, ◌<◌, ◌⊎◌, Bool, false, ◌==◌, not, List, Option, Some}
use Rattle.std.specs.List.{filter}
use Rattle.kernel_model.specs.declared.states.TheConstants.{ENDED, FAULTED}
use Rattle.kernel_model.specs.Kernel.{Kernel, thread_at, app_at, module_at, mutex_at, condition_at, line_at}
use Rattle.kernel_model.specs.Words.{ready, free, running_state, running, app_of, identity, tick_number, omit}
use Rattle.machine_laws.specs.Writes.{SamePart}
use Rattle.load_model.specs.Domains.{Domain, code_length}
use Rattle.trace_model.specs.declared.records.Who.{Who}
use Rattle.trace_model.specs.declared.records.Who.TheVariants as who
use Rattle.trace_model.specs.declared.records.Record.{Record}
use Rattle.trace_model.specs.declared.records.Record.TheVariants.{Instr, Entry, Emit, Exit, Fault}
use Rattle.node_model.specs.Systems.{System, domain_in}
use Rattle.node_model.specs.Steps.{pending}

-- what a step may change: these applications' parts, these threads, these modules
pub record Own : Type 0 where
  pub apps : ℕ → Bool
  pub threads : ℕ → Bool
  pub modules : ℕ → Bool

-- a list without what may change
abbrev pub without_own : (ℕ → Bool) → List ℕ → List ℕ
without_own own ts = filter (λ t. not (own t)) ts

-- a thread that isn't the step's own was ready and runs now, and its saved context with it
pub record IsDispatched (before after : Kernel) (context : List ℕ) (t : ℕ) : Type 0 where
  pub was_ready : (thread_at before t).state ≡ ready
  pub runs : running after ≡ t
  pub row : thread_at after t ≡ record (thread_at before t) { state = running_state }
  pub context_is : context ≡ (thread_at before t).regs

-- the ready list without own threads is as before, but for one that was dispatched
abbrev pub ReadyKept : (ℕ → Bool) → (before after : Kernel) → (context : List ℕ) → Type 0
ReadyKept own k j c =
    (without_own own j.ready ≡ without_own own k.ready)
    ⊎ ((t : ℕ) × IsDispatched k j c t × (without_own own j.ready ≡ omit t (without_own own k.ready)))

-- of the kernel
pub record KernelKept (own : Own) (before after : Kernel) (context : List ℕ) : Type 0 where
  pub rows : (b : ℕ) → b < 8 → own.apps b ≡ false → app_at after b ≡ app_at before b
  pub threads : (t : ℕ) → t < 32 → own.threads t ≡ false
      → (thread_at after t ≡ thread_at before t) ⊎ IsDispatched before after context t
  pub mutexes : (b i : ℕ) → b < 8 → i < 4 → own.apps b ≡ false → mutex_at after b i ≡ mutex_at before b i
  pub conditions : (b i : ℕ) → b < 8 → i < 4 → own.apps b ≡ false → condition_at after b i ≡ condition_at before b i
  pub ready : ReadyKept own.threads before after context
  pub sleepers : without_own own.threads after.sleepers ≡ without_own own.threads before.sleepers
  pub lines : (n : ℕ) → n < 14 → without_own own.threads (line_at after n) ≡ without_own own.threads (line_at before n)
  pub functions : after.functions ≡ before.functions
  pub modules : (i : ℕ) → i < 4 → own.modules i ≡ false → module_at after i ≡ module_at before i
  pub ticks : tick_number after ≡ tick_number before
  pub lines_pending : pending after ≡ pending before

-- of memory: the code and the region of each other domain
pub record MemoryKept (own : Own) (ds : List (Option Domain)) (before after : List ℕ) : Type 0 where
  pub code : (n : ℕ) (d : Domain) → own.apps n ≡ false → domain_in ds n ≡ Some d
      → SamePart d.code_lo (d.code_lo + code_length d.object) before after
  pub region : (n : ℕ) (d : Domain) → own.apps n ≡ false → domain_in ds n ≡ Some d → SamePart d.lo d.hi before after

-- before the step its lines were raised
pub record AreKept (own : Own) (before after : System) : Type 0 where
  pub memory : MemoryKept own before.placed before.memory after.memory
  pub kernel : KernelKept own before.kernel after.kernel after.context
  pub placed : after.placed ≡ before.placed

-- ---- whose step it is

-- an application's own step
abbrev pub of_app : (a : ℕ) → Own
of_app a = record { apps = λ b. b == a; threads = λ t. app_of t == a; modules = λ i. false }

abbrev pub OthersKept : (a : ℕ) → (before after : System) → Type 0
OthersKept a s t = AreKept (of_app a) s t

-- the end of a module in a call: the caller's own record changes, and no application's other parts
abbrev pub of_call : (i caller : ℕ) → Own
of_call i t = record { apps = λ b. false; threads = λ u. u == t; modules = λ j. j == i }

-- the application's row says faulted, and none of its threads is live
pub record IsFaulted (k : Kernel) (a : ℕ) : Type 0 where
  pub row : (app_at k a).state ≡ FAULTED
  pub threads : (n : ℕ) → n < 4 → (thread_at k (identity a n)).state ≡ free

pub record AppFaulted (a : ℕ) (before after : System) : Type 0 where
  pub others : OthersKept a before after
  pub ended : IsFaulted after.kernel a

pub record ModuleFaulted (i : ℕ) (before after : System) : Type 0 where
  pub others : AreKept (of_call i (running before.kernel)) before after
  pub ended : (module_at after.kernel i).state ≡ ENDED

abbrev pub FaultKeeps : Who → (before after : System) → Type 0
FaultKeeps (who.Thread a t) s n = AppFaulted a s n
FaultKeeps (who.Module i) s n = ModuleFaulted i s n
FaultKeeps who.Idle s n = ⊥

abbrev pub StepKeeps : Who → (before after : System) → Type 0
StepKeeps (who.Thread a t) s n = OthersKept a s n
StepKeeps _ s n = Unit {0}

-- what the record of a step says of the others
abbrev pub Keeps : Record → (before after : System) → Type 0
Keeps (Instr n w pc word ws) s t = StepKeeps w s t
Keeps (Entry n w e) s t = StepKeeps w s t
Keeps (Emit n w v) s t = StepKeeps w s t
Keeps (Exit n w l) s t = StepKeeps w s t
Keeps (Fault n w f v) s t = FaultKeeps w s t
Keeps _ s t = Unit {0}

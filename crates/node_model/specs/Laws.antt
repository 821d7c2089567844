-- The laws of a step, cut by its cases. Each is proved in a crate of laws of its
-- own, and takes the others that it rests on as premises.
use Rattle.std.specs.Prelude.{◌≡◌, ◌≢◌, ℕ, ◌+◌, ◌<◌, ◌≤◌, ◌⊎◌, ◌↔◌, List, length, slice_index, true, false, Option, None, Some, Ok}
use Rattle.std.specs.List.{AllByRecursion}
use Rattle.machine_model.specs.Memory.{IsMemory, put_all, word_at}
use Rattle.machine_model.specs.Context.{reg}
use Rattle.machine_model.specs.Fetching.{IsFetched}
use Rattle.msp_encode.specs.declared.registers.TheConstants.{PC}
use Rattle.msp_encode.specs.declared.instr.Instr.{Instr}
use Rattle.kernel_model.specs.declared.map.TheConstants.{BITMAP_END, DATA_POOL, DATA_POOL_END, KERNEL_STACK, KERNEL_TOP, STACK_LIMIT, STACK_TOP}
use Rattle.kernel_model.specs.Kernel.{Kernel, word_of, thread_at, app_at}
use Rattle.kernel_model.specs.declared.rows.SysWord.TheVariants.{Budget}
use Rattle.code_model.specs.Verdicts.{IsAccepted}
use Rattle.place_model.specs.declared.places.Regions.{Regions}
use Rattle.place_model.specs.Settled.{IsSettledKernel}
use Rattle.load_model.specs.Loading.{Loadable, places_of}
use Rattle.node_model.specs.Booting.{empty_system, loaded_at, all_started}
use Rattle.kernel_model.specs.Words.{free, live, identity, running_module, tick_number}
use Rattle.kernel_model.specs.Running.{NoneRuns}
use Rattle.kernel_model.specs.Dispatching.{dispatched, dispatched_context}
use Rattle.load_model.specs.Domains.{Domain, code_length}
use Rattle.kernel_model.specs.Layout.{IsLaidOut}
use Rattle.kernel_model.specs.Queues.{Leaves}
use Rattle.place_model.specs.Marking.{IsMarkOf}
use Rattle.node_model.specs.Systems.{System, seen, seen_in, domain_in, is_mark}
use Rattle.node_model.specs.Entries.{Call, has_row}
use Rattle.node_model.specs.Steps.{Next, Case, Runs, Enters, step_of, by_case, case_of, fetched, with_raised, pending}
use Rattle.node_model.specs.Sound.{IsSound, IsSoundKernel, IsCodeInPlace, IsRunning, IsGoodIn, AreDomains, AreFunctions}
use Rattle.node_model.specs.Confined.{Within, IsConfined}
use Rattle.node_model.specs.Spelled.{IsSpelled}
use Rattle.node_model.specs.Kept.{Keeps}
use Rattle.node_model.specs.Nodes.{most_steps}

-- what is seen of a sound system: a memory, with the words for the current limit and the current top, and what lies above the marks
pub record IsSeen (s : System) : Type 0 where
  pub memory : IsMemory (seen s)
  pub limit : word_at (seen s) STACK_LIMIT ≡ s.kernel.cur_lim
  pub top : word_at (seen s) STACK_TOP ≡ s.kernel.cur_top
  pub above : (a : ℕ) → BITMAP_END ≤ a → slice_index (seen s) a ≡ slice_index s.memory a

abbrev pub SeenLaw : Type 0
SeenLaw = (s : System) → IsSound s → IsSeen s

-- a step that keeps the system sound, and is confined and keeps the others. A
-- step of an instruction is that of the one that is spelled
pub record IsSafe (s : System) (n : Next) : Type 0 where
  pub sound : IsSound n.system
  pub confined : IsConfined s n.shown
  pub keeps : Keeps n.shown s n.system
  pub spelled : IsSpelled n.shown s n.system

-- ---- the cases

abbrev pub CaseLaw : Case → Type 0
CaseLaw e =
    (s : System) (pick : Option ℕ) → IsSound s → s.steps < most_steps → case_of s.kernel s.context ≡ e → IsSafe s (by_case s pick e)

-- an instruction is fetched exactly where it is spelled
abbrev pub FetchedLaw : Type 0
FetchedLaw = (m : List ℕ) (pc : ℕ) (i : Instr) (n : ℕ) → IsMemory m → (fetched m pc ≡ Some (i, n)) ↔ IsFetched m pc i n

-- a step at which no instruction is spelled has no confined record
abbrev pub UnspelledLaw : Type 0
UnspelledLaw = (s : System) (pick : Option ℕ) → case_of s.kernel s.context ≡ Runs → fetched (seen s) (reg s.context PC) ≡ None
    → IsConfined s (step_of s pick).shown → ⊥

-- nor has one at an entry without a row for who runs
abbrev pub RowlessLaw : Type 0
RowlessLaw = (s : System) (pick : Option ℕ) (c : Call) → case_of s.kernel s.context ≡ Enters c → has_row s.kernel c ≡ false
    → IsConfined s (step_of s pick).shown → ⊥

-- every step after its lines were raised
abbrev pub StepLaw : Type 0
StepLaw = (s : System) (pick : Option ℕ) → IsSound s → s.steps < most_steps → IsSafe s (step_of s pick)

-- while a module runs
abbrev pub ModuleStepLaw : Type 0
ModuleStepLaw = (s : System) (pick : Option ℕ) → IsSeen s → IsSound s → s.steps < most_steps → running_module s.kernel < 4
    → IsGoodIn s.placed (8 + running_module s.kernel) KERNEL_STACK KERNEL_TOP s.context → IsSafe s (step_of s pick)

abbrev pub RaisedLaw : Type 0
RaisedLaw = (s : System) (raised : ℕ) → IsSound s → IsSound (with_raised s raised)

-- ---- writes

-- above the tables and the marks, below the code
abbrev pub IsInPools : ℕ × ℕ → Type 0
IsInPools w = Within KERNEL_STACK KERNEL_TOP w ⊎ Within DATA_POOL DATA_POOL_END w

abbrev pub WritesLaw : Type 0
WritesLaw = (s : System) (ws : List (ℕ × ℕ)) → IsCodeInPlace s.memory s.placed → IsSoundKernel s.kernel s.placed s.steps
    → AllByRecursion IsInPools ws → IsMemory (put_all s.memory ws) → IsCodeInPlace (put_all s.memory ws) s.placed

-- ---- dispatch

-- from a kernel that is sound and runs nothing
abbrev pub DispatchLaw : Type 0
DispatchLaw =
    (m : List ℕ) (k : Kernel) (ds : List (Option Domain)) (steps : ℕ) (pick : Option ℕ) → IsSoundKernel k ds steps → NoneRuns k
    → IsSoundKernel (dispatched k pick) ds steps × IsRunning m (dispatched_context k pick) (dispatched k pick) ds

-- ---- what a node's code uses, to go on standing for the system

-- bytes written outside the tables and the marks are seen written
abbrev pub SeenWritesLaw : Type 0
SeenWritesLaw =
    (m : List ℕ) (k : Kernel) (ds : List (Option Domain)) (ws : List (ℕ × ℕ)) → length m ≡ 65536 → AllByRecursion IsInPools ws
    → put_all (seen_in m k ds) ws ≡ seen_in (put_all m ws) k ds

-- what a call of the kernel leaves is seen with the other kernel
abbrev pub SeenLeavesLaw : Type 0
SeenLeavesLaw =
    (m before after : List ℕ) (k j : Kernel) (ds : List (Option Domain)) → IsMemory m → IsMemory before → IsMemory after
    → IsLaidOut before
    → before ≡ seen_in m k ds → Leaves before after j → after ≡ seen_in m j ds

-- the bitmap that is seen has the marks of each domain, and no others in its code
abbrev pub MarkSeenLaw : Type 0
MarkSeenLaw = (s : System) (n : ℕ) (d : Domain) (at : ℕ) → IsSound s → domain_in s.placed n ≡ Some d
    → IsMarkOf (seen s) d.code_lo (d.code_lo + code_length d.object) at ↔ (is_mark s.placed n at ≡ true)

-- ---- boot, in three laws

-- a system while objects are placed: no thread is live yet, and thread 0 of each application has its entry
pub record IsLoading (s : System) : Type 0 where
  pub code : IsCodeInPlace s.memory s.placed
  pub settled : IsSettledKernel s.kernel
  pub domains : AreDomains s.kernel.apps s.kernel.modules s.placed
  pub functions : AreFunctions s.kernel.functions s.placed
  pub none_runs : NoneRuns s.kernel
  pub unborn : (t : ℕ) → t < 32 → (thread_at s.kernel t).state ≡ free
  pub entries : (a : ℕ) (d : Domain) → a < 8 → domain_in s.placed a ≡ Some d
      → is_mark s.placed a (reg (thread_at s.kernel (identity a 0)).regs PC) ≡ true
  pub all_live : (a : ℕ) → a < 8 → (app_at s.kernel a).state ≢ free → (app_at s.kernel a).state ≡ live
  pub fresh : (tick_number s.kernel ≡ 0) × (word_of s.kernel Budget ≡ 0) × (pending s.kernel ≡ 0)
  pub made : s.steps ≡ 0

abbrev pub EmptyLaw : Type 0
EmptyLaw = IsLoading empty_system

-- an object that is placed
abbrev pub LoadedLaw : Type 0
LoadedLaw =
    (s : System) (n : ℕ) (o : Loadable) (r : Regions) → IsLoading s → IsAccepted o.object o.units
    → places_of s.kernel o.object ≡ Ok r → IsLoading (loaded_at s n o r)

-- the threads that start
abbrev pub StartedLaw : Type 0
StartedLaw =
    (s : System) → IsLoading s → IsSoundKernel (all_started s.placed s.kernel) s.placed 0 × NoneRuns (all_started s.placed s.kernel)

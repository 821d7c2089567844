-- What always holds of a system.
use Rattle.std.specs.Prelude.{◌≡◌, ◌≢◌, ℕ, ◌+◌, ◌*◌, ◌%◌, ◌^◌, ◌<◌, ◌≤◌, true, List, length, slice_index_or, Option, Some}
use Rattle.kernel_model.specs.declared.states.TheConstants.{ENDED, FAULTED}
use Rattle.kernel_model.specs.declared.map.TheConstants.{FIRST_ROUTINE, KERNEL_STACK, KERNEL_TOP, VECTORS}
use Rattle.kernel_model.specs.declared.kinds.Kind.{Kind}
use Rattle.kernel_model.specs.declared.kinds.Kind.TheVariants.{App, Module}
use Rattle.code_model.specs.Statics.{static_size}
use Rattle.code_model.specs.Verdicts.{IsAccepted}
use Rattle.machine_model.specs.Memory.{word_at, IsMemory}
use Rattle.machine_model.specs.Context.{reg, IsContext}
use Rattle.kernel_model.specs.Kernel.{Kernel, word_of, free_app, free_module, free_thread, free_function}
use Rattle.kernel_model.specs.Words.{none, live, free, ready, running_state, running, running_module, app_of, number_of, identity, tick_number}
use Rattle.kernel_model.specs.declared.rows.SysWord.TheVariants.{Budget}
use Rattle.kernel_model.specs.declared.rows.AppRow.{AppRow}
use Rattle.kernel_model.specs.declared.rows.ModuleRow.{ModuleRow}
use Rattle.kernel_model.specs.declared.rows.FnRow.{FnRow}
use Rattle.kernel_model.specs.declared.rows.ThreadRow.{ThreadRow}
use Rattle.place_model.specs.Settled.{IsSettledKernel}
use Rattle.kernel_model.specs.Running.{ThreadRuns, NoneRuns, idle_context}
use Rattle.msp_encode.specs.declared.registers.TheConstants.{PC, SP, SR}
use Rattle.load_model.specs.Domains.{Domain, code_length, region_length}
use Rattle.load_model.specs.Images.{code_image}
use Rattle.load_model.specs.Standing.{HasBytes}
use Rattle.node_model.specs.Good.{IsGood}
use Rattle.node_model.specs.Systems.{System, domain_in, kind_of, is_mark}
use Rattle.node_model.specs.Entries.{interrupted}
use Rattle.node_model.specs.Steps.{pending, most_instructions}

-- ---- 1: domains, and the rows that say where they are placed

pub record IsAppRowOf (d : Domain) (row : AppRow) : Type 0 where
  pub used : row.state ≢ free
  -- live, done, or faulted
  pub known : row.state ≤ FAULTED
  pub code_lo : row.code_lo ≡ d.code_lo
  pub code_hi : row.code_hi ≡ d.code_lo + code_length d.object
  pub lo : row.lo ≡ d.lo
  pub hi : row.hi ≡ d.hi
  pub z : row.z ≡ static_size d.object
  pub stack : row.stack ≡ d.object.stack
  pub threads : row.threads ≡ d.object.threads

pub record IsModuleRowOf (d : Domain) (row : ModuleRow) : Type 0 where
  pub used : row.state ≢ free
  -- live, or ended
  pub known : row.state ≤ ENDED
  pub code_lo : row.code_lo ≡ d.code_lo
  pub code_hi : row.code_hi ≡ d.code_lo + code_length d.object
  pub lo : row.lo ≡ d.lo
  pub hi : row.hi ≡ d.hi

-- the row of a domain with this number, among the applications' or the modules' rows
abbrev pub HasRow : Kind → List AppRow → List ModuleRow → (number : ℕ) → Domain → Type 0
HasRow App apps modules n d = IsAppRowOf d (slice_index_or apps n free_app)
HasRow Module apps modules n d = (m : ℕ) × (n ≡ 8 + m) × IsModuleRowOf d (slice_index_or modules m free_module)

-- an accepted object, with the places of the row of its number
pub record IsDomain (apps : List AppRow) (modules : List ModuleRow) (number : ℕ) (d : Domain) : Type 0 where
  pub below : number < 12
  pub accepted : IsAccepted d.object d.units
  pub kind : d.object.kind ≡ kind_of number
  pub region : d.hi ≡ d.lo + region_length d.object
  pub row : HasRow (kind_of number) apps modules number d

-- the domain with this number
abbrev pub HasDomain : List (Option Domain) → (number : ℕ) → Type 0
HasDomain ds n = (d : Domain) × (domain_in ds n ≡ Some d)

-- the rows that aren't free are exactly those of the domains. That their places
-- are even, in the pools and apart is said of the rows
pub record AreDomains (apps : List AppRow) (modules : List ModuleRow) (ds : List (Option Domain)) : Type 0 where
  pub twelve : length ds ≡ 12
  pub placed : (n : ℕ) (d : Domain) → domain_in ds n ≡ Some d → IsDomain apps modules n d
  pub apps_used : (a : ℕ) → a < 8 → (slice_index_or apps a free_app).state ≢ free → HasDomain ds a
  pub modules_used : (i : ℕ) → i < 4 → (slice_index_or modules i free_module).state ≢ free → HasDomain ds (8 + i)

-- ---- 2: memory

pub record IsCodeInPlace (m : List ℕ) (ds : List (Option Domain)) : Type 0 where
  pub memory : IsMemory m
  pub code : (n : ℕ) (d : Domain) → domain_in ds n ≡ Some d → HasBytes m d.code_lo (code_image d)
  pub vectors : (n : ℕ) → n < 14 → word_at m (VECTORS + 2 * n) ≡ FIRST_ROUTINE + 2 * n

-- ---- 3: who runs

-- a context is safe for the domain with a number, on the stack [low, top)
pub record IsGoodIn (ds : List (Option Domain)) (number low top : ℕ) (c : List ℕ) : Type 0 where
  pub domain : Domain
  pub placed : domain_in ds number ≡ Some domain
  pub good : IsGood domain low top c

-- the stack of the thread with identity t
abbrev pub low_in : List AppRow → (t : ℕ) → ℕ
low_in apps t = let a = slice_index_or apps (app_of t) free_app in a.lo + a.z + number_of t * a.stack

abbrev pub top_in : List AppRow → (t : ℕ) → ℕ
top_in apps t = low_in apps t + (slice_index_or apps (app_of t) free_app).stack

-- a context is safe for the thread with identity t
abbrev pub IsGoodFor : List AppRow → List (Option Domain) → (t : ℕ) → (context : List ℕ) → Type 0
IsGoodFor apps ds t c = IsGoodIn ds (app_of t) (low_in apps t) (top_in apps t) c

-- an acceptance was just made: the context that it pushed is safe, and lies in the thread's own stack
pub record IsServing (c : List ℕ) : Type 0 where
  pub context : IsContext c
  pub line : ℕ
  pub number : line < 14
  pub at : reg c PC ≡ FIRST_ROUTINE + 2 * line
  pub cleared : reg c SR ≡ 0

pub record IsInterrupted (m c : List ℕ) (apps : List AppRow) (ds : List (Option Domain)) (t : ℕ) : Type 0 where
  pub good : IsGoodFor apps ds t (interrupted m c)
  pub even_pc : word_at m (reg c SP + 2) % 2 ≡ 0
  pub from_low : low_in apps t ≤ reg c SP
  pub to_top : reg c SP + 4 ≤ top_in apps t

-- what it pushed is the context of the machine that idles
pub record IsIdleInterrupted (m c : List ℕ) : Type 0 where
  pub idle : interrupted m c ≡ idle_context
  pub even_pc : word_at m (reg c SP + 2) % 2 ≡ 0

-- exactly one of these: each says who runs, or at PC that an interrupt was accepted
pub data IsRunning (m c : List ℕ) (k : Kernel) (ds : List (Option Domain)) : Type 0 where
  AThread : ThreadRuns k → IsGoodFor k.apps ds (running k) c → IsRunning m c k ds
  Nothing : NoneRuns k → c ≡ idle_context → IsRunning m c k ds
  Interrupted : ThreadRuns k → IsServing c → IsInterrupted m c k.apps ds (running k) → IsRunning m c k ds
  IdleInterrupted : NoneRuns k → IsServing c → IsIdleInterrupted m c → IsRunning m c k ds
  AModule : running_module k < 4 → IsGoodIn ds (8 + running_module k) KERNEL_STACK KERNEL_TOP c → IsRunning m c k ds

-- ---- 4: saved contexts

pub record IsSavedWell (apps : List AppRow) (ds : List (Option Domain)) (t : ℕ) (row : ThreadRow) : Type 0 where
  pub good : IsGoodFor apps ds t row.regs
  -- but for a ready one it goes on at a mark
  pub mark : row.state ≢ ready → is_mark ds (app_of t) (reg row.regs PC) ≡ true

-- thread t's row, where it is live and doesn't run
abbrev pub IsSaved : List AppRow → List (Option Domain) → (t : ℕ) → ThreadRow → Type 0
IsSaved apps ds t row = row.state ≢ free → row.state ≢ running_state → IsSavedWell apps ds t row

abbrev pub AreSaved : List AppRow → List (Option Domain) → List ThreadRow → Type 0
AreSaved apps ds threads = (t : ℕ) → t < 32 → IsSaved apps ds t (slice_index_or threads t free_thread)

-- ---- 5: what the orderly kernel doesn't say

-- a live application has a live thread
abbrev pub HasThread : List ThreadRow → (a : ℕ) → Type 0
HasThread threads a = (n : ℕ) × (n < 4) × ((slice_index_or threads (identity a n) free_thread).state ≢ free)

abbrev pub ArePopulated : List AppRow → List ThreadRow → Type 0
ArePopulated apps threads = (a : ℕ) → a < 8 → (slice_index_or apps a free_app).state ≡ live → HasThread threads a

-- a function's address is a mark of its module
abbrev pub AreFunctions : List FnRow → List (Option Domain) → Type 0
AreFunctions functions ds = (f : ℕ) → f < 64 → (slice_index_or functions f free_function).module ≢ none
    → is_mark ds (8 + (slice_index_or functions f free_function).module) (slice_index_or functions f free_function).address ≡ true

-- ---- 6: bounds that the orderly kernel doesn't have

pub record AreBounded (tick counted in_module mask steps : ℕ) : Type 0 where
  pub ticks : tick ≤ steps
  pub count : counted ≤ most_instructions
  pub no_count : in_module ≡ none → counted ≡ 0
  pub lines : mask < 2 ^ 14

-- ---- all of it

-- a kernel that is sound whoever runs, with the domains that are placed
pub record IsSoundKernel (k : Kernel) (ds : List (Option Domain)) (steps : ℕ) : Type 0 where
  pub settled : IsSettledKernel k
  pub domains : AreDomains k.apps k.modules ds
  pub saved : AreSaved k.apps ds k.threads
  pub populated : ArePopulated k.apps k.threads
  pub functions : AreFunctions k.functions ds
  pub bounded : AreBounded (tick_number k) (word_of k Budget) (running_module k) (pending k) steps

pub record IsSound (s : System) : Type 0 where
  pub code : IsCodeInPlace s.memory s.placed
  pub kernel : IsSoundKernel s.kernel s.placed s.steps
  pub running : IsRunning s.memory s.context s.kernel s.placed

-- What the code of a node's boot stands on: the memory that it holds while objects are placed and threads start. Each law is
-- proved in `node_laws`.
use Rattle.std.specs.Prelude.{◌≡◌, ◌≢◌, ℕ, ◌+◌, ◌*◌, ◌<◌, ◌≤◌, ◌⊎◌, ◌↔◌, List, length, drop, replicate, slice_index, slice_get, slice_set, Some, Ok, Err}
use Rattle.flat_mem.specs.Bytes.{word_at}
use Rattle.machine_model.specs.Memory.{IsMemory}
use Rattle.kernel_model.specs.declared.map.TheConstants.{FIRST_ROUTINE, TABLES, TABLES_END, VECTORS, VECTORS_END}
use Rattle.kernel_model.specs.Kernel.{Kernel, app_at}
use Rattle.kernel_model.specs.Layout.{kernel_of, empty, IsLaidOut}
use Rattle.kernel_model.specs.Queues.{Leaves}
use Rattle.kernel_model.specs.Words.{free, identity}
use Rattle.kernel_model.specs.Running.{NoneRuns}
use Rattle.kernel_model.specs.Starting.{started, MayBegin}
use Rattle.code_model.specs.Verdicts.{IsAccepted}
use Rattle.place_model.specs.declared.places.NoRoom.{NoRoom}
use Rattle.place_model.specs.declared.places.Regions.{Regions}
use Rattle.place_model.specs.Settled.{IsSettled, IsSettledKernel}
use Rattle.load_model.specs.Loading.{Loadable, Loaded, loaded_kernel, places_of}
use Rattle.node_model.specs.Systems.{System}
use Rattle.node_model.specs.Booting.{empty_system, loaded_at, loaded_all, booted, begun_system, started_below}
use Rattle.node_model.specs.Sound.{HasDomain}
use Rattle.node_model.specs.Nodes.{Parts, Boots, IsBootRefusal, IsFitting, all_owned, nobody}
use Rattle.node_model.specs.Laws.{IsLoading}
use Rattle.node_model.specs.Code.{Shows}

-- ---- the first memory

-- a memory of zeros got the empty kernel and the vectors
pub record IsCleared (before after : List ℕ) : Type 0 where
  pub zeros : before ≡ replicate 65536 0
  pub memory : IsMemory after
  pub kernel : kernel_of after ≡ empty
  pub laid_out : IsLaidOut after
  pub vectors : (n : ℕ) → n < 14 → word_at after (VECTORS + 2 * n) ≡ FIRST_ROUTINE + 2 * n
  -- outside of the tables and of the vectors
  pub others : (a : ℕ) → (a < TABLES) ⊎ (((TABLES_END ≤ a) × (a < VECTORS)) ⊎ (VECTORS_END ≤ a))
      → slice_index after a ≡ slice_index before a

-- it is that of the system with nothing in it
abbrev pub FirstSeenLaw : Type 0
FirstSeenLaw = (before after : List ℕ) → IsCleared before after → Shows after empty_system

-- ---- an object

-- while objects are placed, memory is settled
abbrev pub LoadingSettledLaw : Type 0
LoadingSettledLaw = (m : List ℕ) (s : System) → Shows m s → IsLoading s → IsSettled m

-- behind loading an object, memory is that of the system that has it
abbrev pub SeenLoadedLaw : Type 0
SeenLoadedLaw = (before after : List ℕ) (s : System) (n : ℕ) (o : Loadable) (r : Regions) → IsLoading s
    → IsAccepted o.object o.units → places_of s.kernel o.object ≡ Ok r → Shows before s → IsMemory after
    → Loaded before after (loaded_kernel o.object.kind s.kernel o.object r) o r → Shows after (loaded_at s n o r)

-- and the owners are those of the domains
abbrev pub LoadedOwnedLaw : Type 0
LoadedOwnedLaw = (os : List Loadable) (s : System) (n : ℕ) (o : Loadable) (r : Regions) → IsLoading s → IsAccepted o.object o.units
    → length s.owner ≡ 12 → all_owned s.kernel os s.owner ≡ s.placed → slice_get os n ≡ Some o → n < nobody
    → places_of s.kernel o.object ≡ Ok r
    → all_owned (loaded_at s n o r).kernel os (loaded_at s n o r).owner ≡ (loaded_at s n o r).placed

-- ---- all objects, one after another

-- what holds of memory and owners with so many objects placed: the rest of them, placed in this system, is boot
pub record IsBooting (m owner : List ℕ) (os : List Loadable) (count : ℕ) (s : System) : Type 0 where
  pub loading : IsLoading s
  pub shows : Shows m s
  pub owners : owner ≡ s.owner
  pub twelve : length owner ≡ 12
  pub owned : all_owned s.kernel os s.owner ≡ s.placed
  pub rest : loaded_all (Ok empty_system) 0 os ≡ loaded_all (Ok s) count (drop count os)

-- at first
abbrev pub BootBeginsLaw : Type 0
BootBeginsLaw = (before after : List ℕ) (os : List Loadable) → IsCleared before after
    → IsBooting after (replicate 12 nobody) os 0 empty_system

-- an object is loaded
pub record IsLoaded (before after owner : List ℕ) (os : List Loadable) (count : ℕ) (s : System) (r : Regions) : Type 0 where
  pub booting : IsBooting before owner os count s
  pub fitting : IsFitting os
  pub numbered : count < nobody
  pub object : Loadable
  pub found : slice_get os count ≡ Some object
  pub places : places_of (kernel_of before) object.object ≡ Ok r
  pub memory : IsMemory after
  pub loaded : Loaded before after (loaded_kernel object.object.kind (kernel_of before) object.object r) object r

abbrev pub BootGoesOnLaw : Type 0
BootGoesOnLaw = (before after owner : List ℕ) (os : List Loadable) (count : ℕ) (s : System) (r : Regions)
    (h : IsLoaded before after owner os count s r)
    → IsBooting after (slice_set owner r.dom count) os (count + 1) (loaded_at s count h.object r)

-- there is no room for it
abbrev pub BootRefusesLaw : Type 0
BootRefusesLaw = (m owner : List ℕ) (os : List Loadable) (count : ℕ) (s : System) (o : Loadable) (why : NoRoom)
    → IsBooting m owner os count s → slice_get os count ≡ Some o → places_of (kernel_of m) o.object ≡ Err why
    → IsBootRefusal (booted os) count why

-- ---- threads start

-- with thread 0 of each application below a number started
pub record IsBeginning (s : System) (n : ℕ) (k : Kernel) : Type 0 where
  pub settled : IsSettledKernel k
  pub none_runs : NoneRuns k
  -- a row is used exactly where there is a domain
  pub used : (a : ℕ) → a < 8 → ((app_at k a).state ≢ free) ↔ HasDomain s.placed a
  -- the next one, where its row is used
  pub may : n < 8 → (app_at k n).state ≢ free → MayBegin k (identity n 0)
  pub starts : n < 8 → (app_at k n).state ≢ free → started_below s.placed s.kernel (n + 1) ≡ started k n
  pub passes : n < 8 → (app_at k n).state ≡ free → started_below s.placed s.kernel (n + 1) ≡ k

abbrev pub BeginningLaw : Type 0
BeginningLaw = (s : System) (n : ℕ) → IsLoading s → n ≤ 8 → IsBeginning s n (started_below s.placed s.kernel n)

-- ---- the end of boot

-- all objects are placed, and then their threads were started and one was dispatched
pub record IsBegun (before : List ℕ) (new : Parts) (os : List Loadable) (s : System) : Type 0 where
  pub booting : IsBooting before new.owner os (length os) s
  pub fitting : IsFitting os
  pub memory : IsMemory new.mem
  pub left : Leaves before new.mem (begun_system s).kernel
  pub regs : new.regs ≡ (begun_system s).context
  pub steps : new.steps ≡ 0

abbrev pub BootStandsLaw : Type 0
BootStandsLaw = (before : List ℕ) (new : Parts) (os : List Loadable) (s : System) → IsBegun before new os s
    → Boots new os (booted os)

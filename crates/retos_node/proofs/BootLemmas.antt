-- What holds while a node boots: an object more, and a thread more.
use Rattle.std.proofs.Common.{◌≡◌, ℕ, ◌+◌, ◌<◌, List, length, replicate, refl, ap, ◌∙◌, subst, None, Some, Result, Ok, Err}
use Rattle.std.specs.Prelude.{slice_set, slice_get}
use Rattle.machine_model.specs.Memory.{IsMemory}
use Rattle.machine_model.specs.Context.{IsContext}
use Rattle.kernel_model.specs.Dispatching.{dispatched, dispatched_context}
use Rattle.kernel_threads.specs.Contexts.{taken}
use Rattle.node_model.specs.Systems.{System}
use Rattle.node_model.specs.Laws.{DispatchLaw, IsLoading, StartedLaw}
use Rattle.retos_node.proofs.Standing.{running_is_context}
use Rattle.kernel_model.specs.Layout.{kernel_of}
use Rattle.kernel_model.specs.Queues.{Leaves}
use Rattle.kernel_model.specs.Kernel.{Kernel}
use Rattle.place_model.specs.declared.places.Regions.{Regions}
use Rattle.load_model.specs.Loading.{Loadable, Loaded, loaded_kernel, places_of}
use Rattle.node_model.specs.Booting.{Refusal, all_started, begun_system, booted, empty_system, loaded_at, started_below}
use Rattle.node_model.specs.BootCode.{BootBeginsLaw, BootGoesOnLaw, BootStandsLaw, IsBooting, IsCleared}
use Rattle.node_model.specs.Nodes.{Boots, IsFitting, IsSoundNode, Parts, Represents, nobody}
use Rattle.node_model.specs.Sound.{IsSound}
use Rattle.retos_node.specs.Boots.{IsStarting, IsUnderway, StartsTo}

-- an object was loaded, with its number
pub record IsPlacedAs (before after : List ℕ) (o : Loadable) (n : ℕ) (r : Regions) : Type 0 where
  pub places : places_of (kernel_of before) o.object ≡ Ok r
  pub number : r.dom ≡ n
  pub loaded : Loaded before after (loaded_kernel o.object.kind (kernel_of before) o.object r) o r

pub goes_on : BootGoesOnLaw → (before after owner : List ℕ) (os : List Loadable) (count : ℕ) (o : Loadable) (n : ℕ) (r : Regions)
    → IsUnderway before owner os count → IsFitting os → count < 255 → slice_get os count ≡ Some o → IsMemory after
    → IsPlacedAs before after o n r → IsUnderway after (slice_set owner n count) os (count + 1)
goes_on law before after owner os count o n r h fitting few found memory p = record {
  system = loaded_at h.system count o r;
  booting = subst (λ (k : ℕ). IsBooting after (slice_set owner k count) os (count + 1) (loaded_at h.system count o r)) p.number
      (law before after owner os count h.system r (record {
        booting = h.booting;
        fitting = fitting;
        numbered = few;
        object = o;
        found = found;
        places = p.places;
        memory = memory;
        loaded = p.loaded;
      }));
}

-- the threads of the first applications were started
pub record AreStarted (first now : List ℕ) (n : ℕ) : Type 0 where
  pub starting : IsStarting now n
  pub starts : StartsTo first now 0 n

pub none_started : (m : List ℕ) → IsStarting m 0 → AreStarted m m 0
none_started m h = record {
  starting = h;
  starts = λ s loading e. record { kernel = e; others = refl; laid_out = λ l. l; queues = λ q. q };
}

pub one_more_started : (first now next : List ℕ) (n : ℕ) → AreStarted first now n → IsStarting next (n + 1) → StartsTo now next n (n + 1)
    → AreStarted first next (n + 1)
one_more_started first now next n h starting starts = record {
  starting = starting;
  starts = λ s loading e.
      let l1 : Leaves first now (started_below s.placed s.kernel n) = h.starts s loading e in
      let l2 : Leaves now next (started_below s.placed s.kernel (n + 1)) = starts s loading l1.kernel in
      record {
        kernel = l2.kernel;
        others = l2.others ∙ l1.others;
        laid_out = λ l. l2.laid_out (l1.laid_out l);
        queues = λ q. l2.queues (l1.queues q);
      };
}

-- all threads were started, and one was dispatched
pub begun_left : (first now next : List ℕ) (s : System) → StartsTo first now 0 8 → IsLoading s → kernel_of first ≡ s.kernel
    → Leaves now next (dispatched (kernel_of now) None) → Leaves first next (begun_system s).kernel
begun_left first now next s starts loading e d =
    let l1 : Leaves first now (all_started s.placed s.kernel) = starts s loading e in
    let l2 : Leaves now next (dispatched (all_started s.placed s.kernel) None) =
    subst (λ (k : Kernel). Leaves now next (dispatched k None)) l1.kernel d in
    record {
      kernel = l2.kernel;
      others = l2.others ∙ l1.others;
      laid_out = λ l. l2.laid_out (l1.laid_out l);
      queues = λ q. l2.queues (l1.queues q);
    }

pub begun_registers : StartedLaw → DispatchLaw → ((c : List ℕ) → IsContext c → taken c ≡ c) → (first now r : List ℕ) (s : System)
    → StartsTo first now 0 8 → IsLoading s → kernel_of first ≡ s.kernel → r ≡ taken (dispatched_context (kernel_of now) None)
    → r ≡ (begun_system s).context
begun_registers started dispatch whole first now r s starts loading e h =
    let k : Kernel = all_started s.placed s.kernel in
    let sound = started s loading in
    let runs = dispatch s.memory k s.placed 0 None sound.0 sound.1 in
    let context : IsContext (dispatched_context k None) =
    running_is_context s.memory (dispatched_context k None) (dispatched k None) s.placed runs.1 in
    h ∙ ap (λ (j : Kernel). taken (dispatched_context j None)) (starts s loading e).kernel ∙ whole (dispatched_context k None) context

-- ---- the whole

pub underway_first : BootBeginsLaw → (before after : List ℕ) (os : List Loadable) → IsCleared before after
    → IsUnderway after (replicate 12 nobody) os 0
underway_first law before after os h = record { system = empty_system; booting = law before after os h }

-- the parts of a node with all objects placed and all threads started
pub record IsBegunFrom (before : List ℕ) (new : Parts) (os : List Loadable) : Type 0 where
  pub underway : IsUnderway before new.owner os (length os)
  pub fitting : IsFitting os
  pub memory : IsMemory new.mem
  pub left : (s : System) → IsLoading s → kernel_of before ≡ s.kernel → Leaves before new.mem (begun_system s).kernel
  pub regs : (s : System) → IsLoading s → kernel_of before ≡ s.kernel → new.regs ≡ (begun_system s).context
  pub steps : new.steps ≡ 0

pub boots : BootStandsLaw → (before : List ℕ) (new : Parts) (os : List Loadable) → IsBegunFrom before new os → Boots new os (booted os)
boots law before new os h =
    let s : System = h.underway.system in
    law before new os s (record {
      booting = h.underway.booting;
      fitting = h.fitting;
      memory = h.memory;
      left = h.left s h.underway.booting.loading h.underway.booting.shows.kernel;
      regs = h.regs s h.underway.booting.loading h.underway.booting.shows.kernel;
      steps = h.steps;
    })

pub boots_sound : ((n : Parts) (os : List Loadable) (s : System) → Represents n os s → IsSound s → IsSoundNode n os)
    → (n : Parts) (os : List Loadable) (r : Result System Refusal) → Boots n os r → IsSoundNode n os
boots_sound law n os (Ok s) h = law n os s h.0 h.1
boots_sound law n os (Err e) h = absurd h

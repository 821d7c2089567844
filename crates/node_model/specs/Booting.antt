-- The system after boot: the objects placed in their order, their threads started, and a dispatch.
use Rattle.std.specs.Prelude.{ℕ, ◌+◌, ◌*◌, List, [], ◌∷◌, map, replicate, slice_set, Option, None, Some, Result, Ok, Err}
use Rattle.std.specs.List.{fold, range_with_len}
use Rattle.flat_mem.specs.Bytes.{patch}
use Rattle.kernel_model.specs.declared.map.TheConstants.{FIRST_ROUTINE, VECTORS}
use Rattle.kernel_model.specs.Bytes.{bytes_of}
use Rattle.kernel_model.specs.Kernel.{Kernel}
use Rattle.kernel_model.specs.Layout.{empty}
use Rattle.place_model.specs.declared.places.Regions.{Regions}
use Rattle.place_model.specs.declared.places.NoRoom.{NoRoom}
use Rattle.kernel_model.specs.Starting.{started}
use Rattle.kernel_model.specs.Dispatching.{dispatched, dispatched_context}
use Rattle.load_model.specs.Domains.{Domain}
use Rattle.load_model.specs.Loading.{Loadable, domain_of, loaded_kernel, places_of, with_images}
use Rattle.node_model.specs.Systems.{System, domain_in}

abbrev pub vectors : List ℕ
vectors = bytes_of (map (λ n. FIRST_ROUTINE + 2 * n) (range_with_len 0 14))

unfoldable pub first_memory : List ℕ
first_memory = patch (replicate 65536 0) VECTORS vectors

unfoldable pub empty_system : System
empty_system = record {
  memory = first_memory;
  context = replicate 16 0;
  kernel = empty;
  placed = replicate 12 None;
  owner = replicate 12 255;
  steps = 0;
}

-- ---- a placed object

abbrev pub loaded_at : System → (n : ℕ) → Loadable → Regions → System
loaded_at s n o r = record s {
  memory = with_images s.memory (domain_of o r);
  kernel = loaded_kernel o.object.kind s.kernel o.object r;
  placed = slice_set s.placed r.dom (Some (domain_of o r));
  owner = slice_set s.owner r.dom n;
}

-- ---- boot

-- the object's number in the list, and why there is no room for it
pub record Refusal : Type 0 where
  pub object : ℕ
  pub cause : NoRoom

abbrev pub by_places : System → (n : ℕ) → Loadable → Result Regions NoRoom → Result System Refusal
by_places s n o (Ok r) = Ok (loaded_at s n o r)
by_places s n o (Err why) = Err (record { object = n; cause = why })

-- the object with this number is placed, or refused
unfoldable pub loaded : System → (n : ℕ) → Loadable → Result System Refusal
loaded s n o = by_places s n o (places_of s.kernel o.object)

-- one after another, from a number on
abbrev pub loaded_all : Result System Refusal → (n : ℕ) → List Loadable → Result System Refusal
loaded_all r n [] = r
loaded_all (Err e) n (o ∷ os) = Err e
loaded_all (Ok s) n (o ∷ os) = loaded_all (loaded s n o) (n + 1) os

abbrev pub started_if : Option Domain → Kernel → (number : ℕ) → Kernel
started_if None k n = k
started_if (Some d) k n = started k n

-- thread 0 of each application below a number, in their order: numbers rise as objects are placed
abbrev pub started_below : List (Option Domain) → Kernel → (number : ℕ) → Kernel
started_below ds k n = fold (λ k n. started_if (domain_in ds n) k n) k (range_with_len 0 n)

abbrev pub all_started : List (Option Domain) → Kernel → Kernel
all_started ds k = started_below ds k 8

abbrev pub begun_system : System → System
begun_system s =
    let k = all_started s.placed s.kernel in record s { kernel = dispatched k None; context = dispatched_context k None }

abbrev pub begun_if : Result System Refusal → Result System Refusal
begun_if (Ok s) = Ok (begun_system s)
begun_if (Err e) = Err e

unfoldable pub booted : List Loadable → Result System Refusal
booted os = begun_if (loaded_all (Ok empty_system) 0 os)

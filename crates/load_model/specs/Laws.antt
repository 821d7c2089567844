-- What holds where objects are loaded.
use Rattle.std.specs.Prelude.{◌≡◌, ℕ, List, length, Ok}
use Rattle.code_model.specs.declared.object.Object.{Object}
use Rattle.kernel_model.specs.declared.kinds.Kind.TheVariants.{Module}
use Rattle.kernel_model.specs.Kernel.{Kernel}
use Rattle.kernel_model.specs.Layout.{kernel_of}
use Rattle.kernel_model.specs.Queues.{Leaves}
use Rattle.place_model.specs.declared.places.Regions.{Regions}
use Rattle.place_model.specs.Placing.{placing}
use Rattle.place_model.specs.Settled.{IsSettledKernel}
use Rattle.load_model.specs.Domains.{code_length, region_length}
use Rattle.load_model.specs.Loading.{Loadable, placed_row, loaded_kernel, Loaded}

-- ---- a settled kernel stays settled

-- with a module's row
abbrev pub PlacedLaw : Type 0
PlacedLaw = (k : Kernel) (o : Object) (r : Regions) → IsSettledKernel k → o.kind ≡ Module
    → placing k Module (code_length o) (region_length o) ≡ Ok r → IsSettledKernel (placed_row k r)

-- with all that an object's loading leaves
abbrev pub LoadedLaw : Type 0
LoadedLaw = (k : Kernel) (o : Object) (r : Regions) → IsSettledKernel k
    → placing k o.kind (code_length o) (region_length o) ≡ Ok r → IsSettledKernel (loaded_kernel o.kind k o r)

-- ---- what is written into the tables leaves marks, code and region, and they leave the tables

abbrev pub TablesFirstLaw : Type 0
TablesFirstLaw = (m m1 m2 : List ℕ) (k : Kernel) (o : Loadable) (r : Regions) → length m ≡ 65536 → length m1 ≡ 65536
    → Leaves m m1 k → Loaded m1 m2 (kernel_of m1) o r → Loaded m m2 k o r

abbrev pub TablesLastLaw : Type 0
TablesLastLaw = (m m1 m2 : List ℕ) (j k : Kernel) (o : Loadable) (r : Regions) → length m1 ≡ 65536 → length m2 ≡ 65536
    → Loaded m m1 j o r → Leaves m1 m2 k → Loaded m m2 k o r

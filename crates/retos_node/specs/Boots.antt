-- What holds of memory and owners while a node boots.
use Rattle.std.specs.Prelude.{◌≡◌, ℕ, List}
use Rattle.kernel_model.specs.Layout.{kernel_of}
use Rattle.kernel_model.specs.Queues.{Leaves}
use Rattle.place_model.specs.Settled.{IsSettled}
use Rattle.load_model.specs.Loading.{Loadable}
use Rattle.node_model.specs.Systems.{System}
use Rattle.node_model.specs.Booting.{started_below}
use Rattle.node_model.specs.BootCode.{IsBooting}
use Rattle.node_model.specs.Laws.{IsLoading}

-- there is a system in which so many objects are placed
pub record IsUnderway (m owner : List ℕ) (os : List Loadable) (count : ℕ) : Type 0 where
  pub system : System
  pub booting : IsBooting m owner os count system

-- there is a system in which all objects are placed, and the threads of its applications below a number were started
pub record IsStarting (m : List ℕ) (n : ℕ) : Type 0 where
  pub settled : IsSettled m
  pub system : System
  pub loading : IsLoading system
  pub kernel : kernel_of m ≡ started_below system.placed system.kernel n

-- for each such system whose kernel a memory had, the other memory has them started, and is else as before
abbrev pub StartsTo : (before after : List ℕ) → (from to : ℕ) → Type 0
StartsTo before after from to = (s : System) → IsLoading s → kernel_of before ≡ started_below s.placed s.kernel from
    → Leaves before after (started_below s.placed s.kernel to)

-- What a routine of the kernel is given, and what it leaves, in a memory and registers.
use Rattle.std.specs.Prelude.{◌≡◌, ◌↔◌, ℕ, ◌<◌, Bool, true, List, Option, Some}
use Rattle.machine_model.specs.Memory.{word_at}
use Rattle.machine_model.specs.Context.{reg, IsContext}
use Rattle.kernel_model.specs.Kernel.{Kernel}
use Rattle.kernel_model.specs.Layout.{kernel_of}
use Rattle.kernel_model.specs.Queues.{Leaves}
use Rattle.kernel_model.specs.Words.{tick_number}
use Rattle.kernel_model.specs.Dispatching.{dispatched, dispatched_context}
use Rattle.place_model.specs.Settled.{IsSettled}
use Rattle.place_model.specs.Marking.{IsOwnMark}
use Rattle.kernel_model.specs.Modules.{HasKnownModules}
use Rattle.msp_encode.specs.declared.registers.TheConstants.{SP}
use Rattle.trace_model.specs.declared.records.Record.{Record}
use Rattle.retos_node.specs.declared.turns.Moment.{Moment}
use Rattle.node_model.specs.Entries.{Work, Turn, Call, has_row, turn_at}
use Rattle.node_model.specs.Steps.{entry_at}

-- ---- what a routine is given

-- the marks of the running domain
abbrev pub AreOwnMarks : (m : List ℕ) → (is_own : ℕ → Bool) → Type 0
AreOwnMarks m is_own = (at : ℕ) → IsOwnMark m at ↔ (is_own at ≡ true)

-- the work of the node's definitions, as memory and registers have it
pub record IsWork (m registers : List ℕ) (step : ℕ) (pick : Option ℕ) (w : Work) : Type 0 where
  pub kernel : kernel_of m ≡ w.kernel
  pub context : registers ≡ w.context
  pub marks : AreOwnMarks m w.is_own
  pub stacked : word_at m (reg registers SP) ≡ w.stacked
  pub step_is : step ≡ w.step
  pub pick_is : pick ≡ w.pick

-- what each routine stands on: the tables are settled, module rows are known, and time is within bounds
pub record MayTurn (m : List ℕ) : Type 0 where
  pub settled : IsSettled m
  pub known : HasKnownModules (kernel_of m)
  pub time : tick_number (kernel_of m) < 10000000

-- at an address is an entry that has a row for who runs
pub record HasRow (k : Kernel) (pc : ℕ) : Type 0 where
  pub call : Call
  pub at : entry_at pc ≡ Some call
  pub row : has_row k call ≡ true

-- ---- what it leaves

-- memory has the turn's kernel and is else as before; the registers are the turn's, which can be held in each sound system; and its
-- record is told
pub record Turned (before after registers : List ℕ) (told : Record) (t : Turn) : Type 0 where
  pub leaves : Leaves before after t.kernel
  pub registers_are : IsContext t.context → registers ≡ t.context
  pub shown : told ≡ t.shown

-- the turn of a routine, for its work
abbrev pub TurnsBy : (m m' r r' : List ℕ) → Moment → Record → (Work → Turn) → Type 0
TurnsBy m m' r r' moment told turn = (w : Work) → IsWork m r moment.step moment.pick w → Turned m m' r' told (turn w)

-- ---- between its parts

-- memory has a kernel and is else as before, and the registers are a context, which they can hold in each sound system
pub record Becomes (before after registers : List ℕ) (k : Kernel) (context : List ℕ) : Type 0 where
  pub leaves : Leaves before after k
  pub registers_are : IsContext context → registers ≡ context

-- a dispatch was made from a kernel, in which nothing runs
abbrev pub DispatchesFrom : (m m' r' : List ℕ) → Moment → Kernel → Type 0
DispatchesFrom m m' r' moment k = Becomes m m' r' (dispatched k moment.pick) (dispatched_context k moment.pick)

-- the work as memory and registers have it, with these marks, and with this word that stood at SP
abbrev pub work_of : (m registers : List ℕ) → Moment → (is_own : ℕ → Bool) → (stacked : ℕ) → Work
work_of m r moment own at = record {
  kernel = kernel_of m;
  context = r;
  is_own = own;
  stacked = at;
  step = moment.step;
  pick = moment.pick;
}

-- a turn that is made by neither marks nor stack
abbrev pub Does : (m m' r r' : List ℕ) → Moment → Record → (Work → Turn) → Type 0
Does m m' r r' moment told turn =
    (own : ℕ → Bool) (at : ℕ) → AreOwnMarks m own → Turned m m' r' told (turn (work_of m r moment own at))

-- a turn whose word at SP is that of memory
abbrev pub DoesCall : (m m' r r' : List ℕ) → Moment → Record → Call → Type 0
DoesCall m m' r r' moment told c =
    (own : ℕ → Bool) → AreOwnMarks m own → Turned m m' r' told (turn_at c (work_of m r moment own (word_at m (reg r SP))))

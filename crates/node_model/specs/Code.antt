-- What the code of a node's step stands on: the memory that it holds, behind each part of a step. Each law is proved in
-- `node_laws`.
use Rattle.std.specs.Prelude.{◌≡◌, ℕ, ◌+◌, ◌<◌, ◌↔◌, List, true, Option, Some}
use Rattle.msp_encode.specs.declared.registers.TheConstants.{PC}
use Rattle.msp_encode.specs.declared.instr.Instr.{Instr}
use Rattle.machine_model.specs.Memory.{word_at, IsMemory, put_all}
use Rattle.machine_model.specs.Context.{reg}
use Rattle.machine_model.specs.Accepting.{accepted}
use Rattle.machine_model.specs.Does.{does, memory_after}
use Rattle.kernel_model.specs.Kernel.{Kernel}
use Rattle.kernel_model.specs.Layout.{kernel_of}
use Rattle.kernel_model.specs.Locks.{LocksHeld}
use Rattle.kernel_model.specs.Modules.{HasKnownModules}
use Rattle.kernel_model.specs.Queues.{Leaves}
use Rattle.kernel_model.specs.Running.{DomainRuns, running_domain}
use Rattle.place_model.specs.Marking.{IsOwnMark}
use Rattle.place_model.specs.Settled.{IsSettled}
use Rattle.load_model.specs.Domains.{Domain}
use Rattle.load_model.specs.Loading.{Loadable}
use Rattle.trace_model.specs.declared.records.Record.{Record}
use Rattle.trace_model.specs.declared.records.Record.TheVariants.{Instr as InstrRecord, Accept as AcceptRecord}
use Rattle.node_model.specs.Systems.{System, seen, is_mark}
use Rattle.node_model.specs.Entries.{Turn, who_runs}
use Rattle.node_model.specs.Steps.{Next, Accepts, Runs, by_case, by_turn, case_of, counted, fetched, step_of, with_pending, with_raised, without_line}
use Rattle.node_model.specs.Sound.{IsSound, AreDomains}
use Rattle.node_model.specs.Nodes.{Parts, Represents, Stepped, all_owned, most_steps}

-- ---- a memory of a system

-- a memory is what is seen of a system, and has its kernel
pub record Shows (m : List ℕ) (s : System) : Type 0 where
  pub memory : IsMemory m
  pub bytes : m ≡ seen s
  pub kernel : kernel_of m ≡ s.kernel

-- that of a node for each system that it stands for
abbrev pub ShownLaw : Type 0
ShownLaw = (n : Parts) (os : List Loadable) (s : System) → Represents n os s → IsSound s → Shows n.mem s

-- it is settled, as the kernel's calls want it
abbrev pub SettledLaw : Type 0
SettledLaw = (m : List ℕ) (s : System) → Shows m s → IsSound s → IsSettled m

-- the state of each module's row is known
abbrev pub KnownLaw : Type 0
KnownLaw = (s : System) → IsSound s → HasKnownModules s.kernel

-- the marks of the domain that runs are those of the bitmap
abbrev pub OwnMarkLaw : Type 0
OwnMarkLaw = (m : List ℕ) (s : System) (at : ℕ) → Shows m s → IsSound s → DomainRuns s.kernel
    → IsOwnMark m at ↔ (is_mark s.placed (running_domain s.kernel) at ≡ true)

-- what is promised of owners and waiters holds at each system
abbrev pub LocksLaw : Type 0
LocksLaw = (s : System) → IsSound s → LocksHeld s.kernel

-- the objects at the places of the rows stay, as long as the domains do
abbrev pub OwnedLaw : Type 0
OwnedLaw = (k j : Kernel) (os : List Loadable) (owner : List ℕ) (ds : List (Option Domain)) → AreDomains k.apps k.modules ds
    → AreDomains j.apps j.modules ds → all_owned k os owner ≡ ds → all_owned j os owner ≡ ds

-- ---- lines are raised

abbrev pub RaiseLaw : Type 0
RaiseLaw = (before after : List ℕ) (s : System) (raised : ℕ) → Shows before s → IsSound s → IsMemory after
    → Leaves before after (with_pending (kernel_of before) raised) → Shows after (with_raised s raised)

-- where none is, nothing changes
abbrev pub NoneRaisedLaw : Type 0
NoneRaisedLaw = (s : System) → with_raised s 0 ≡ s

-- ---- the cases of a step, from a system whose lines were raised

-- memory and registers are those of the next system, and the record is told
pub record GivesNext (memory context : List ℕ) (told : Record) (x : Next) : Type 0 where
  pub shows : Shows memory x.system
  pub regs : context ≡ x.system.context
  pub shown : told ≡ x.shown

-- a turn was made: its kernel was left, and nothing else in memory
pub record IsTurned (s : System) (pick : Option ℕ) (t : Turn) (before after context : List ℕ) (told : Record) : Type 0 where
  pub sound : IsSound s
  pub shows : Shows before s
  pub memory : IsMemory after
  pub turn : by_case s pick (case_of s.kernel s.context) ≡ by_turn s t
  pub left : Leaves before after t.kernel
  pub regs : context ≡ t.context
  pub shown : told ≡ t.shown

abbrev pub TurnStandsLaw : Type 0
TurnStandsLaw = (s : System) (pick : Option ℕ) (t : Turn) (before after context : List ℕ) (told : Record)
    → IsTurned s pick t before after context told → GivesNext after context told (step_of s pick)

-- an instruction was done, and then counted where a module runs
pub record IsDone (s : System) (i : Instr) (words : ℕ) (before after context : List ℕ) (told : Record) : Type 0 where
  pub sound : IsSound s
  pub steps : s.steps < most_steps
  pub shows : Shows before s
  pub memory : IsMemory after
  pub runs : case_of s.kernel s.context ≡ Runs
  pub found : fetched before (reg s.context PC) ≡ Some (i, words)
  pub middle : List ℕ
  pub written : middle ≡ memory_after before (does before s.context i words)
  pub left : Leaves middle after (counted (kernel_of middle))
  pub regs : context ≡ (does before s.context i words).context
  pub shown : told ≡ InstrRecord (s.steps + 1) (who_runs s.kernel) (reg s.context PC) (word_at before (reg s.context PC))
      (does before s.context i words).written

abbrev pub InstructionStandsLaw : Type 0
InstructionStandsLaw =
    (s : System) (pick : Option ℕ) (i : Instr) (words : ℕ) (before after context : List ℕ) (told : Record)
    → IsDone s i words before after context told → GivesNext after context told (step_of s pick)

-- an interrupt was accepted, and then its line taken from those that are pending
pub record IsAccepting (s : System) (line : ℕ) (before after context : List ℕ) (told : Record) : Type 0 where
  pub sound : IsSound s
  pub steps : s.steps < most_steps
  pub shows : Shows before s
  pub memory : IsMemory after
  pub accepts : case_of s.kernel s.context ≡ Accepts line
  pub middle : List ℕ
  pub written : middle ≡ memory_after before (accepted line before s.context)
  pub left : Leaves middle after (without_line (kernel_of middle) line)
  pub regs : context ≡ (accepted line before s.context).context
  pub shown : told ≡ AcceptRecord (s.steps + 1) (who_runs s.kernel) line (reg s.context PC) (accepted line before s.context).written

abbrev pub AcceptanceStandsLaw : Type 0
AcceptanceStandsLaw = (s : System) (pick : Option ℕ) (line : ℕ) (before after context : List ℕ) (told : Record)
    → IsAccepting s line before after context told → GivesNext after context told (step_of s pick)

-- between the two, memory has the kernel as it was, and is settled
pub record IsWritten (s : System) (ws : List (ℕ × ℕ)) (middle : List ℕ) : Type 0 where
  pub shows : Shows middle (record s { memory = put_all s.memory ws })
  pub kernel : kernel_of middle ≡ s.kernel
  pub settled : IsSettled middle

abbrev pub DoneWritesLaw : Type 0
DoneWritesLaw = (s : System) (i : Instr) (words : ℕ) (before : List ℕ) → IsSound s → s.steps < most_steps → Shows before s
    → case_of s.kernel s.context ≡ Runs → fetched before (reg s.context PC) ≡ Some (i, words)
    → IsWritten s (does before s.context i words).written (memory_after before (does before s.context i words))

abbrev pub AcceptedWritesLaw : Type 0
AcceptedWritesLaw = (s : System) (line : ℕ) (before : List ℕ) → IsSound s → s.steps < most_steps → Shows before s
    → case_of s.kernel s.context ≡ Accepts line
    → IsWritten s (accepted line before s.context).written (memory_after before (accepted line before s.context))

-- ---- the whole step

-- the node's parts behind a step are those of the next system
pub record IsStepOf (old new : Parts) (os : List Loadable) (s : System) (raised : ℕ) (pick : Option ℕ) (told : Record)
    : Type 0 where
  pub represents : Represents old os s
  pub sound : IsSound s
  pub made : s.steps < most_steps
  pub gives : GivesNext new.mem new.regs told (step_of (with_raised s raised) pick)
  pub steps : new.steps ≡ old.steps + 1
  pub owner : new.owner ≡ old.owner

-- so the node stands for the system behind the step, and all that a step promises holds
abbrev pub StandsLaw : Type 0
StandsLaw = (old new : Parts) (os : List Loadable) (s : System) (raised : ℕ) (pick : Option ℕ) (told : Record)
    → IsStepOf old new os s raised pick told → Stepped new os s raised pick told

-- What each case of a step stands on, and what it leaves, in a memory and registers.
use Rattle.std.specs.Prelude.{◌≡◌, ℕ, ◌+◌, ◌<◌, if◌then◌else◌, List, Option, None, Some}
use Rattle.machine_model.specs.Context.{reg}
use Rattle.kernel_model.specs.Kernel.{Kernel}
use Rattle.msp_encode.specs.declared.registers.TheConstants.{PC, SR}
use Rattle.trace_model.specs.declared.records.Record.{Record}
use Rattle.node_model.specs.Systems.{System}
use Rattle.retos_node.specs.declared.turns.Moment.{Moment}
use Rattle.node_model.specs.Entries.{Call}
use Rattle.machine_model.specs.Accepting.{allows_interrupts}
use Rattle.node_model.specs.Steps.{Enters, case_of, entry_at, highest_line, step_of, with_raised}
use Rattle.node_model.specs.Sound.{IsSound}
use Rattle.node_model.specs.Code.{Shows, GivesNext}
use Rattle.node_model.specs.Nodes.{most_steps}

-- memory and registers are those of a sound system, whose next step has this number
pub record Stands (m registers : List ℕ) (step : ℕ) (s : System) : Type 0 where
  pub shows : Shows m s
  pub regs : registers ≡ s.context
  pub sound : IsSound s
  pub number : step ≡ s.steps + 1
  pub made : s.steps < most_steps

-- there is such a system
abbrev pub StandsForOne : (m registers : List ℕ) → (step : ℕ) → Type 0
StandsForOne m r n = (s : System) × Stands m r n s

-- for each such system, the case gives the system behind the step, and its record
abbrev pub Gives : (before after registers context : List ℕ) → Moment → (told : Record) → Type 0
Gives before after r c moment told = (s : System) → Stands before r moment.step s → GivesNext after c told (step_of s moment.pick)

-- the same, from the system before its lines were raised
abbrev pub GivesRaised : (before after registers context : List ℕ) → (raised : ℕ) → Moment → (told : Record) → Type 0
GivesRaised before after r c raised moment told =
    (s : System) → Stands before r moment.step s → GivesNext after c told (step_of (with_raised s raised) moment.pick)

-- the line whose interrupt is accepted
abbrev pub line_to_accept : Kernel → (registers : List ℕ) → Option ℕ
line_to_accept k r = if allows_interrupts (reg r SR) then highest_line k else None

-- PC is at an entry, whose turn is the next step
pub record IsAtEntry (k : Kernel) (registers : List ℕ) : Type 0 where
  pub call : Call
  pub at : entry_at (reg registers PC) ≡ Some call
  pub enters : case_of k registers ≡ Enters call

-- How far a run has come.
use Rattle.std.specs.Prelude.{◌≡◌, ℕ, ◌+◌, ◌-◌, ◌≤◌, Bool, ◌==◌, nat_lt, if◌then◌else◌, ◌&&◌, ◌||◌, not, List, ◌++◌, length}
use Rattle.std.specs.List.{filter, list_any}
use Rattle.machine_model.specs.Context.{reg}
use Rattle.kernel_model.specs.Kernel.{Kernel}
use Rattle.kernel_model.specs.Words.{none, running}
use Rattle.msp_encode.specs.declared.registers.TheConstants.{PC}
use Rattle.trace_model.specs.declared.records.Record.{Record}
use Rattle.trace_model.specs.declared.scripts.At.{At}
use Rattle.trace_model.specs.declared.scripts.Script.{Script}
use Rattle.trace_model.specs.Texts.{is_emit, is_fault}
use Rattle.load_model.specs.Loading.{Loadable}
use Rattle.node_model.specs.Systems.{System}
use Rattle.node_model.specs.Steps.{pending}
use Rattle.node_model.specs.Runs.{Run, run, next, is_serving, is_live_app}
use Rattle.node_model.specs.Sound.{IsSound}
use Rattle.node_model.specs.Nodes.{Parts, Represents, IsEnd}
use Rattle.retos_node.specs.declared.running.Counts.{Counts}

-- nothing is ready, pending or served, and nothing more comes
abbrev pub rests_in : Script → (steps : ℕ) → Kernel → (context : List ℕ) → Bool
rests_in t n k c =
    (length k.ready == 0) && not (is_serving (reg c PC)) && (pending k == 0) && not (list_any (λ (a : At). nat_lt n a.step) t.ats)
    && ((length t.everys.items == 0) || not (list_any is_live_app k.apps))

-- the quiet test, over what it reads
abbrev pub quiet_in : Script → (steps : ℕ) → Kernel → (context : List ℕ) → Bool
quiet_in t n k c =
    (running k == none) && (length k.ready == 0) && not (is_serving (reg c PC)) && (pending k == 0)
    && not (list_any (λ (a : At). nat_lt n a.step) t.ats) && ((length t.everys.items == 0) || not (list_any is_live_app k.apps))

abbrev pub one_if : Bool → ℕ
one_if b = if b then 1 else 0

-- a record was counted
pub record AreCounted (before after : Counts) (r : Record) : Type 0 where
  pub emits : after.emits ≡ before.emits + one_if (is_emit r)
  pub faults : after.faults ≡ before.faults + one_if (is_fault r)

-- no more were counted than steps were made
pub record AreWithin (steps : ℕ) (c : Counts) : Type 0 where
  pub emits : c.emits ≤ steps
  pub faults : c.faults ≤ steps

-- the node stands for the next system, and its record was counted
pub record IsNext (t : Script) (s : System) (os : List Loadable) (new : Parts) (before after : Counts) : Type 0 where
  pub represents : Represents new os (next t s).system
  pub sound : IsSound (next t s).system
  pub counted : AreCounted before after (next t s).shown

abbrev pub behind : List Record → Run → Run
behind made rest = record { records = made ++ rest.records; last = rest.last }

-- these records were made, and the run goes on from the system that the node stands for
pub record IsUnderWay (os : List Loadable) (limit : ℕ) (t : Script) (first : System) (new : Parts) (c : Counts) (Told : List Record → Type 0) : Type 0 where
  pub made : List Record
  pub now : System
  pub whole_is : run limit t first ≡ behind made (run (limit - new.steps) t now)
  pub part_is : run new.steps t first ≡ record { records = made; last = now }
  pub count : length made ≡ new.steps
  pub represents : Represents new os now
  pub sound : IsSound now
  pub emits : c.emits ≡ length (filter is_emit made)
  pub faults : c.faults ≡ length (filter is_fault made)
  pub told : Told made

-- the node stands for the system of the run with as many steps
pub record HasReached (os : List Loadable) (limit : ℕ) (t : Script) (first : System) (new : Parts) : Type 0 where
  pub within : new.steps ≤ length (run limit t first).records
  pub reached : Represents new os (run new.steps t first).last

-- the run came to its end
pub record HasEnded (os : List Loadable) (limit : ℕ) (t : Script) (first : System) (new : Parts) (quiet : Bool) (c : Counts) : Type 0 where
  pub last : Represents new os (run limit t first).last
  pub end : IsEnd t (run limit t first) quiet new.steps c.emits c.faults
  pub reached : HasReached os limit t first new

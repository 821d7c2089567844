-- What running objects comes to.
use Rattle.std.specs.Prelude.{◌≡◌, ℕ, Bool, List, Ok}
use Rattle.retos_node.specs.declared.node.End.{End}
use Rattle.retos_node.specs.declared.node.End.TheVariants.{Limit, Quiet}
use Rattle.edge_io.specs.Known.{SinkState, appended, GotPrefix}
use Rattle.edge_io.specs.Causes.{Rose}
use Rattle.load_model.specs.Loading.{Loadable}
use Rattle.trace_model.specs.declared.scripts.Script.{Script}
use Rattle.node_model.specs.Systems.{System}
use Rattle.node_model.specs.Booting.{booted}
use Rattle.retos_cli.specs.declared.command.Job.{Job}
use Rattle.retos_cli.specs.declared.outcome.Outcome.{Outcome}
use Rattle.retos_cli.specs.declared.outcome.Outcome.TheVariants.{Done, BadWords, Stopped, WriteFault}
use Rattle.retos_cli.specs.declared.outcome.Stop.TheVariants.{Refuse, ReadFault, NoMemory}
use Rattle.retos_cli.specs.Meaning.{job_text, has_faulted, IsUnplaced}

abbrev pub faults_of : End → ℕ
faults_of (Limit steps emits faults) = faults
faults_of (Quiet steps emits faults) = faults

-- the trace was printed whole
pub record IsTraced (job : Job) (t : Script) (os : List Loadable) (o0 o1 : SinkState) (faulted : Bool) : Type 0 where
  pub system : System
  pub boots : booted os ≡ Ok system
  pub trace : o1.bytes ≡ appended o0.bytes (job_text job t os system)
  pub faulted_is : faulted ≡ has_faulted job t system

-- a write failed within the trace
pub record IsTraceCut (job : Job) (t : Script) (os : List Loadable) (o0 o1 : SinkState) : Type 0 where
  pub system : System
  pub boots : booted os ≡ Ok system
  pub rose : Rose o0.faults o1.faults
  pub prefix : GotPrefix o0.bytes o1.bytes (job_text job t os system)

-- the objects ran, or there was no room for one of them or no memory
abbrev pub RunEnds : Job → Script → List Loadable → SinkState → SinkState → Outcome → Type 0
RunEnds job t os o0 o1 (Done faulted) = IsTraced job t os o0 o1 faulted
RunEnds job t os o0 o1 WriteFault = IsTraceCut job t os o0 o1
RunEnds job t os o0 o1 (Stopped (Refuse r)) = IsUnplaced os job.names r × (o1 ≡ o0)
RunEnds job t os o0 o1 (Stopped NoMemory) = o1 ≡ o0
RunEnds job t os o0 o1 (Stopped (ReadFault name)) = ⊥
RunEnds job t os o0 o1 BadWords = ⊥

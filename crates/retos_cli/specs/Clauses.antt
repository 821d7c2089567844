-- The clauses of the top call: what each status says of the folder and the two sinks.
use Rattle.std.specs.Prelude.{◌≡◌, ℕ, ◌⊎◌, List, [], ◌∷◌, Some, None, Ok}
use Rattle.std.specs.declared.option.Option.{Option}
use Rattle.edge_io.specs.Known.{Files, FolderState, SinkState, appended, GotPrefix}
use Rattle.edge_io.specs.Causes.{Rose, Still}
use Rattle.retos_cli.specs.declared.command.Command.{Command}
use Rattle.retos_cli.specs.declared.command.Command.TheVariants.{Run, Check, Asm, Insert, Gen}
use Rattle.retos_cli.specs.declared.outcome.Status.{Status}
use Rattle.retos_cli.specs.declared.outcome.Status.TheVariants.{Done, Refused, BadWords, ReadFault, WriteFault, NoMemory, Faulted}
use Rattle.retos_cli.specs.Commands.{command_of}
use Rattle.retos_cli.specs.Lines.{words_line, write_line, memory_line, read_line}
use Rattle.retos_cli.specs.Meaning.{Answer, IsAnswer, IsRefusal, Output, IsDone, HasOneAnswer, status_by, inputs, written, IsReached, IsSupplied, IsGenerated, generated_steps}
use Rattle.retos_cli.specs.Ends.{Told, CutAt, IsHeld}
use Rattle.retos_cli.specs.declared.command.Job.{Job}
use Rattle.code_model.specs.declared.object.Object.{Object}
use Rattle.load_model.specs.Loading.{Loadable}
use Rattle.trace_model.specs.declared.scripts.Script.{Script}
use Rattle.trace_model.specs.Grammar.{empty_script}
use Rattle.node_model.specs.Systems.{System}
use Rattle.node_model.specs.Booting.{booted}
use Rattle.node_model.specs.Nodes.{IsSoundRun}

-- a call of the top: the command that its words are, and the folder, out and err before and after
pub record Call : Type 0 where
  pub command : Option Command
  pub folder_before : FolderState
  pub folder_after : FolderState
  pub out_before : SinkState
  pub out_after : SinkState
  pub err_before : SinkState
  pub err_after : SinkState

abbrev pub call_of : {F O E : Type 0} → (F → FolderState) → (O → SinkState) → (E → SinkState) → List (List ℕ) → F → F → O → O → E → E → Call
call_of folder out err words f0 f1 o0 o1 e0 e1 =
    record {
      command = command_of words;
      folder_before = folder f0;
      folder_after = folder f1;
      out_before = out o0;
      out_after = out o1;
      err_before = err e0;
      err_after = err e1;
    }

-- ---- statuses 0 and 6: there is no refusal, and all is the output's

pub record IsOutputOf (call : Call) (given : Status) (m : Files) : Type 0 where
  pub unrefused : (s : Status) (line : List ℕ) → IsRefusal call.command m s line → ⊥
  pub x : Output
  pub done : IsDone call.command m x
  pub out : call.out_after.bytes ≡ appended call.out_before.bytes x.out
  pub err : call.err_after.bytes ≡ call.err_before.bytes
  pub files : call.folder_after.files ≡ Some (written m x.file)
  pub status : given ≡ status_by x.faulted

abbrev pub OutputClause : Call → Status → Type 0
OutputClause call Done = Told call.folder_before.files (IsOutputOf call Done)
OutputClause call Faulted = Told call.folder_before.files (IsOutputOf call Faulted)
OutputClause call _ = Unit {0}

-- ---- the lines of statuses 1, 2, 3 and 5

-- this is an input of the words, before which nothing is refused
abbrev pub ReachedBy : Option Command → Files → List ℕ → Type 0
ReachedBy None m name = ⊥
ReachedBy (Some command) m name = IsReached m (inputs command) name

-- the read of an input of the words failed in this call, and this is its line
pub record IsReadLine (call : Call) (line : List ℕ) : Type 0 where
  pub rose : Rose call.folder_before.read_faults call.folder_after.read_faults
  pub name : List ℕ
  pub last : call.folder_after.last_failed ≡ Some name
  pub line_is : line ≡ read_line name
  pub is_held : Told call.folder_before.files (λ m. IsHeld m name)
  pub reached : Told call.folder_before.files (λ m. ReachedBy call.command m name)

abbrev pub LineFor : Call → Status → List ℕ → Type 0
LineFor call Done line = ⊥
LineFor call Faulted line = ⊥
LineFor call WriteFault line = ⊥
LineFor call Refused line = Told call.folder_before.files (λ m. IsRefusal call.command m Refused line)
LineFor call BadWords line = (call.command ≡ None) × (line ≡ words_line)
LineFor call ReadFault line = IsReadLine call line
LineFor call NoMemory line = line ≡ memory_line

-- out and the folder's files, created name and count of write faults are unchanged
pub record IsLeft (call : Call) : Type 0 where
  pub out : call.out_after ≡ call.out_before
  pub files : call.folder_after.files ≡ call.folder_before.files
  pub created : call.folder_after.created ≡ call.folder_before.created
  pub writes : call.folder_after.write_faults ≡ call.folder_before.write_faults

-- the same, and err got the status's line
pub record IsUnwritten (call : Call) (given : Status) : Type 0 where
  pub left : IsLeft call
  pub line : List ℕ
  pub line_for : LineFor call given line
  pub err : call.err_after.bytes ≡ appended call.err_before.bytes line

abbrev pub RefusedClause : Call → Status → Type 0
RefusedClause call Refused = IsUnwritten call Refused
RefusedClause call BadWords = IsUnwritten call BadWords
RefusedClause call _ = Unit {0}

abbrev pub ReadFaultClause : Call → Status → Type 0
ReadFaultClause call ReadFault = IsUnwritten call ReadFault
ReadFaultClause call _ = Unit {0}

abbrev pub NoMemoryClause : Call → Status → Type 0
NoMemoryClause call NoMemory = IsUnwritten call NoMemory
NoMemoryClause call _ = Unit {0}

-- ---- status 4

-- The line on err, and why it may be this one. Behind the line of another status out and the folder are as they were
pub data IsCutLine (call : Call) (line : List ℕ) : Type 0 where
  OfWrites : line ≡ write_line → Rose call.out_before.faults call.out_after.faults ⊎ Rose call.folder_before.write_faults call.folder_after.write_faults → IsCutLine call line
  OfStatus : (given : Status) → LineFor call given line → Rose call.err_before.faults call.err_after.faults → IsLeft call → IsCutLine call line

-- the files are as before and nothing is on out, or the output was cut short
pub data IsCut (call : Call) (m : Files) : Type 0 where
  Nothing : call.folder_after.files ≡ Some m → call.out_after.bytes ≡ call.out_before.bytes → IsCut call m
  OfOutput : (x : Output) → IsDone call.command m x → CutAt x.file x.out m call.folder_after.files call.out_before.bytes call.out_after.bytes → IsCut call m

pub record IsWriteFault (call : Call) : Type 0 where
  pub cause : Rose call.out_before.faults call.out_after.faults ⊎ (Rose call.err_before.faults call.err_after.faults ⊎ Rose call.folder_before.write_faults call.folder_after.write_faults)
  pub told : Told call.folder_before.files (IsCut call)
  pub line : List ℕ
  pub which : IsCutLine call line
  pub err : (call.err_after.bytes ≡ appended call.err_before.bytes line) ⊎ (Rose call.err_before.faults call.err_after.faults × GotPrefix call.err_before.bytes call.err_after.bytes line)

abbrev pub WriteFaultClause : Call → Status → Type 0
WriteFaultClause call WriteFault = IsWriteFault call
WriteFaultClause call _ = Unit {0}

-- ---- completeness

-- no count rose in this call or stands at its last value
pub record IsCalm (call : Call) : Type 0 where
  pub reads : Still call.folder_before.read_faults call.folder_after.read_faults
  pub writes : Still call.folder_before.write_faults call.folder_after.write_faults
  pub out : Still call.out_before.faults call.out_after.faults
  pub err : Still call.err_before.faults call.err_after.faults

-- the status is that of the answer
pub record HasStatus (call : Call) (given : Status) (m : Files) : Type 0 where
  pub answer : Answer
  pub is : IsAnswer call.command m answer
  pub status : given ≡ answer.status

-- where nothing failed, the status is the answer's, or there was no memory
abbrev pub CompleteClause : Call → Status → Type 0
CompleteClause call given = IsCalm call → Told call.folder_before.files (λ m. HasStatus call given m ⊎ (given ≡ NoMemory))

-- words that are no command, whatever the folder tells
abbrev pub NoCommandClause : Call → Status → Type 0
NoCommandClause call given = call.command ≡ None → (given ≡ BadWords) ⊎ ((given ≡ NoMemory) ⊎ ((given ≡ WriteFault) × Rose call.err_before.faults call.err_after.faults))

-- ---- one answer

-- the words and the files decide all that is answered
abbrev pub OneAnswerClause : Call → Type 0
OneAnswerClause call = Told call.folder_before.files (HasOneAnswer call.command)

-- ---- confinement

-- Where a run has all its inputs and there is room for its objects: at every number of steps up to the run's end the system is
-- sound, each record is confined by the system before it and keeps the others, and a fault leaves its row faulted
abbrev pub IsConfinedJob : Files → Job → Type 0
IsConfinedJob m job = (t : Script) (os : List Loadable) (s : System) → IsSupplied m job t os → booted os ≡ Ok s → IsSoundRun job.steps t s

-- the same of the run of the object of a number
abbrev pub IsConfinedGenerated : (seed : ℕ) → Type 0
IsConfinedGenerated seed =
    (source : Object) (o : Loadable) (s : System) → IsGenerated seed source o → booted (o ∷ []) ≡ Ok s → IsSoundRun generated_steps empty_script s

abbrev pub RunsConfined : Option Command → Files → Type 0
RunsConfined None m = Unit {0}
RunsConfined (Some (Run job)) m = IsConfinedJob m job
RunsConfined (Some (Check names)) m = Unit {0}
RunsConfined (Some (Asm from to)) m = Unit {0}
RunsConfined (Some (Insert from to)) m = Unit {0}
RunsConfined (Some (Gen seed to)) m = IsConfinedGenerated seed

abbrev pub ConfinedClause : Call → Type 0
ConfinedClause call = Told call.folder_before.files (RunsConfined call.command)

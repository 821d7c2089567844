-- What a command came to, and what stands then.
use Rattle.std.specs.Prelude.{◌≡◌, ℕ, ◌<◌, ◌≤◌, ◌⊎◌, Bool, List, [], ◌++◌, length, Some, None}
use Rattle.std.specs.FinMap.{insert}
use Rattle.std.specs.declared.option.Option.{Option}
use Rattle.std.specs.declared.result.Result.{Result}
use Rattle.std.specs.declared.result.Result.TheVariants.{Ok, Err}
use Rattle.edge_io.specs.Known.{Files, FolderState, SinkState, appended, held, GotPrefix, MayCreate}
use Rattle.edge_io.specs.Causes.{Rose}
use Rattle.code_model.specs.declared.object.Object.{Object}
use Rattle.retos_cli.specs.declared.command.Command.{Command}
use Rattle.retos_cli.specs.declared.command.Command.TheVariants.{Run, Check, Asm, Insert, Gen}
use Rattle.retos_cli.specs.declared.outcome.Stop.{Stop}
use Rattle.retos_cli.specs.declared.outcome.Stop.TheVariants.{Refuse, ReadFault, NoMemory}
use Rattle.retos_cli.specs.declared.outcome.Outcome.{Outcome}
use Rattle.retos_cli.specs.declared.outcome.Outcome.TheVariants.{Done, BadWords, Stopped, WriteFault}
use Rattle.retos_cli.specs.declared.outcome.Refused.{Refused}
use Rattle.retos_cli.specs.declared.outcome.Status.{Status}
use Rattle.retos_cli.specs.declared.outcome.Status.TheVariants as status
use Rattle.retos_cli.specs.declared.purpose.Purpose.{Purpose}
use Rattle.retos_cli.specs.declared.purpose.Purpose.TheVariants.{Source, Plain, Script as Scripted}
use Rattle.load_model.specs.Loading.{Loadable}
use Rattle.trace_model.specs.declared.scripts.Script.{Script}
use Rattle.retos_cli.specs.declared.command.Job.{Job}
use Rattle.retos_cli.specs.Lines.{words_line, write_line, memory_line, read_line, refused_line}
use Rattle.retos_cli.specs.Meaning.{Input, Output, Refuses, Taken, Assembles, Guards, Scripts, AreTaken, IsScriptOf, IsSupplied, IsFirstRefused, IsFirstRefusal, IsReached, IsOutput, inputs, job_inputs, named_inputs, behind_script, written, status_by}

-- a fact about the files, where they are told
abbrev pub Told : Option Files → (Files → Type 0) → Type 0
Told None P = Unit {0}
Told (Some m) P = P m

-- the folder after reads alone
pub record OnlyRead (f0 f1 : FolderState) : Type 0 where
  pub later : f0.read_faults ≤ f1.read_faults
  pub files : f1.files ≡ f0.files
  pub writes : f1.write_faults ≡ f0.write_faults
  pub created : f1.created ≡ f0.created

-- a refusal names this input
pub record RefusesInput (m : Files) (input : Input) (r : Refused) : Type 0 where
  pub name_is : r.name ≡ input.name
  pub refuses : Refuses input.purpose (held m input.name) r.why

-- the name is held
abbrev pub IsHeld : Files → List ℕ → Type 0
IsHeld m name = (bytes : List ℕ) × (held m name ≡ Some bytes)

-- the read of this input failed in this call
pub record FailedAt (f0 f1 : FolderState) (input : Input) (failed : List ℕ) : Type 0 where
  pub name_is : failed ≡ input.name
  pub is_held : Told f0.files (λ m. IsHeld m failed)
  pub rose : Rose f0.read_faults f1.read_faults
  pub last : f1.last_failed ≡ Some failed

-- why one input ends a command
abbrev pub InputStops : FolderState → FolderState → Input → Stop → Type 0
InputStops f0 f1 input (Refuse r) = Told f0.files (λ m. RefusesInput m input r)
InputStops f0 f1 input (ReadFault failed) = FailedAt f0 f1 input failed
InputStops f0 f1 input NoMemory = Unit {0}

-- what taking one input came to
abbrev pub InputEnds : FolderState → FolderState → Input → Result (Object × List ℕ) Stop → Type 0
InputEnds f0 f1 input (Ok x) = Told f0.files (λ m. Taken input.purpose (held m input.name) x.0 x.1)
InputEnds f0 f1 input (Err stop) = InputStops f0 f1 input stop

-- what assembling one source came to
abbrev pub SourceEnds : FolderState → FolderState → List ℕ → Result Object Stop → Type 0
SourceEnds f0 f1 name (Ok o) = Told f0.files (λ m. Assembles (held m name) o)
SourceEnds f0 f1 name (Err stop) = InputStops f0 f1 (record { name = name; purpose = Source }) stop

-- what giving one object its guards came to
abbrev pub PlainEnds : FolderState → FolderState → List ℕ → Result Object Stop → Type 0
PlainEnds f0 f1 name (Ok q) = Told f0.files (λ m. (o : Object) × Guards (held m name) o q)
PlainEnds f0 f1 name (Err stop) = InputStops f0 f1 (record { name = name; purpose = Plain }) stop

-- what reading one script came to
abbrev pub TextEnds : FolderState → FolderState → List ℕ → Result Script Stop → Type 0
TextEnds f0 f1 name (Ok t) = Told f0.files (λ m. Scripts (held m name) t)
TextEnds f0 f1 name (Err stop) = InputStops f0 f1 (record { name = name; purpose = Scripted }) stop

-- the read of an input failed in this call, before which nothing is refused
pub record FailedRead (all : List Input) (f0 f1 : FolderState) (failed : List ℕ) : Type 0 where
  pub is_held : Told f0.files (λ m. IsHeld m failed)
  pub rose : Rose f0.read_faults f1.read_faults
  pub last : f1.last_failed ≡ Some failed
  pub reached : Told f0.files (λ m. IsReached m all failed)

-- why the inputs end a command
abbrev pub StopCause : List Input → FolderState → FolderState → Stop → Type 0
StopCause all f0 f1 (Refuse r) = Told f0.files (λ m. IsFirstRefused m all r)
StopCause all f0 f1 (ReadFault failed) = FailedRead all f0 f1 failed
StopCause all f0 f1 NoMemory = Unit {0}

-- what the script of a run came to, if one is named
abbrev pub ScriptEnds : FolderState → FolderState → (script : Option (List ℕ)) → Result Script Stop → Type 0
ScriptEnds f0 f1 script (Ok t) = Told f0.files (λ m. IsScriptOf m script t)
ScriptEnds f0 f1 script (Err stop) = StopCause (behind_script script []) f0 f1 stop

-- what taking objects came to
abbrev pub ObjectsEnd : Purpose → FolderState → FolderState → List (List ℕ) → Result (List Loadable) Stop → Type 0
ObjectsEnd purpose f0 f1 names (Ok os) = Told f0.files (λ m. AreTaken purpose m names os)
ObjectsEnd purpose f0 f1 names (Err stop) = StopCause (named_inputs purpose names) f0 f1 stop

-- what all inputs of a run came to
abbrev pub SupplyEnds : FolderState → FolderState → Job → Result (Script × List Loadable) Stop → Type 0
SupplyEnds f0 f1 job (Ok x) = Told f0.files (λ m. IsSupplied m job x.0 x.1)
SupplyEnds f0 f1 job (Err stop) = StopCause (job_inputs job) f0 f1 stop

-- why a command ends before it has written anything
abbrev pub CommandStops : Command → FolderState → FolderState → Stop → Type 0
CommandStops command f0 f1 (Refuse r) = Told f0.files (λ m. IsFirstRefusal m command r)
CommandStops command f0 f1 (ReadFault failed) = FailedRead (inputs command) f0 f1 failed
CommandStops command f0 f1 NoMemory = Unit {0}

-- all was written
pub record Finished (command : Command) (f0 f1 : FolderState) (o0 o1 : SinkState) (faulted : Bool) : Type 0 where
  pub told : Told f0.files (λ m. (x : Output) × IsOutput command m x × (x.faulted ≡ faulted) × (o1.bytes ≡ appended o0.bytes x.out) × (f1.files ≡ Some (written m x.file)))

-- the name holds a prefix of the bytes, some are left, and all else is as before
pub record HoldsPart (name bytes : List ℕ) (m : Files) (files : Option Files) : Type 0 where
  pub part : List ℕ
  pub rest : List ℕ
  pub whole_is : part ++ rest ≡ bytes
  pub short : 0 < length rest
  pub files_are : files ≡ Some (insert m name part)

-- where a failed write left a file and the line behind it
pub data FileCut (name bytes out : List ℕ) (m : Files) (files : Option Files) (o0 o1 : Option (List ℕ)) : Type 0 where
  AsBefore : files ≡ Some m → o1 ≡ o0 → FileCut name bytes out m files o0 o1
  OfFile : HoldsPart name bytes m files → o1 ≡ o0 → FileCut name bytes out m files o0 o1
  OfLine : files ≡ Some (insert m name bytes) → GotPrefix o0 o1 out → FileCut name bytes out m files o0 o1

-- where a failed write left the file, if there is one, and out
abbrev pub CutAt : Option (List ℕ × List ℕ) → List ℕ → Files → Option Files → Option (List ℕ) → Option (List ℕ) → Type 0
CutAt None out m files o0 o1 = (files ≡ Some m) × GotPrefix o0 o1 out
CutAt (Some file) out m files o0 o1 = FileCut file.0 file.1 out m files o0 o1

-- a write of out or of the folder failed
pub record CutShort (command : Command) (f0 f1 : FolderState) (o0 o1 : SinkState) : Type 0 where
  pub cause : Rose o0.faults o1.faults ⊎ Rose f0.write_faults f1.write_faults
  pub told : Told f0.files (λ m. (x : Output) × IsOutput command m x × CutAt x.file x.out m f1.files o0.bytes o1.bytes)

-- the command ended before it had written anything
pub record StoppedFor (command : Command) (f0 f1 : FolderState) (o0 o1 : SinkState) (stop : Stop) : Type 0 where
  pub read : OnlyRead f0 f1
  pub cause : CommandStops command f0 f1 stop
  pub out : o1 ≡ o0

-- what a command came to
abbrev pub Ended : Command → FolderState → FolderState → SinkState → SinkState → Outcome → Type 0
Ended command f0 f1 o0 o1 (Done faulted) = Finished command f0 f1 o0 o1 faulted
Ended command f0 f1 o0 o1 BadWords = ⊥
Ended command f0 f1 o0 o1 (Stopped stop) = StoppedFor command f0 f1 o0 o1 stop
Ended command f0 f1 o0 o1 WriteFault = CutShort command f0 f1 o0 o1

-- what words came to
abbrev pub EndedBy : Option Command → FolderState → FolderState → SinkState → SinkState → Outcome → Type 0
EndedBy (Some command) f0 f1 o0 o1 outcome = Ended command f0 f1 o0 o1 outcome
EndedBy None f0 f1 o0 o1 BadWords = (f1 ≡ f0) × (o1 ≡ o0)
EndedBy None f0 f1 o0 o1 (Stopped NoMemory) = (f1 ≡ f0) × (o1 ≡ o0)
EndedBy None f0 f1 o0 o1 (Done faulted) = ⊥
EndedBy None f0 f1 o0 o1 (Stopped (Refuse r)) = ⊥
EndedBy None f0 f1 o0 o1 (Stopped (ReadFault name)) = ⊥
EndedBy None f0 f1 o0 o1 WriteFault = ⊥

-- where the words are a command with an output name, no other name was created
abbrev pub MayRun : Option Command → Option (List ℕ) → Type 0
MayRun None created = Unit {0}
MayRun (Some (Run job)) created = Unit {0}
MayRun (Some (Check names)) created = Unit {0}
MayRun (Some (Asm from to)) created = MayCreate created to
MayRun (Some (Insert from to)) created = MayCreate created to
MayRun (Some (Gen seed to)) created = MayCreate created to

-- ---- the report

abbrev pub line_of : Outcome → Option (List ℕ)
line_of (Done faulted) = None
line_of BadWords = Some words_line
line_of (Stopped (Refuse r)) = Some (refused_line r)
line_of (Stopped (ReadFault name)) = Some (read_line name)
line_of (Stopped NoMemory) = Some memory_line
line_of WriteFault = Some write_line

abbrev pub status_of : Outcome → Status
status_of (Done faulted) = status_by faulted
status_of BadWords = status.BadWords
status_of (Stopped (Refuse r)) = status.Refused
status_of (Stopped (ReadFault name)) = status.ReadFault
status_of (Stopped NoMemory) = status.NoMemory
status_of WriteFault = status.WriteFault

-- the line was printed whole, or the sink cut it short
abbrev pub Printed : Option (List ℕ) → Status → SinkState → SinkState → Status → Type 0
Printed None own e0 e1 given = (given ≡ own) × (e1 ≡ e0)
Printed (Some line) own e0 e1 given =
    ((given ≡ own) × (e1.bytes ≡ appended e0.bytes line))
    ⊎ ((given ≡ status.WriteFault) × Rose e0.faults e1.faults × GotPrefix e0.bytes e1.bytes line)

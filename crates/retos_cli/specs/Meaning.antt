-- What a command refuses and what it gives, by its words and the files.
use Rattle.std.specs.Prelude.{◌≡◌, ℕ, ◌<◌, ◌≤◌, ◌⊎◌, Bool, true, false, nat_lt, List, [], ◌∷◌, ◌++◌, length, Some, None, Ok, Err}
use Rattle.std.specs.declared.option.Option.{Option}
use Rattle.std.specs.FinMap.{insert}
use Rattle.edge_io.specs.Known.{Files, held}
use Rattle.code_model.specs.declared.object.Object.{Object}
use Rattle.kernel_model.specs.declared.kinds.Kind.TheVariants as kind
use Rattle.object_form.specs.Spelling.{object_bytes}
use Rattle.code_model.specs.Fields.{fields}
use Rattle.code_model.specs.Marks.{AreMarks}
use Rattle.gen_model.specs.Generated.{generated}
use Rattle.object_form.specs.Faults.{first_form_fault}
use Rattle.asm_model.specs.FirstPass.{fault}
use Rattle.asm_model.specs.Assembled.{assembled}
use Rattle.insert_model.specs.Faults.{IsFault, IsInserted}
use Rattle.code_model.specs.Verdicts.{IsAccepted, IsVerdict}
use Rattle.code_model.specs.declared.verdict.Verdict.TheVariants as verdict
use Rattle.load_model.specs.Loading.{Loadable}
use Rattle.trace_model.specs.declared.scripts.Script.{Script}
use Rattle.trace_model.specs.Grammar.{script_of, empty_script}
use Rattle.node_model.specs.Systems.{System}
use Rattle.node_model.specs.Runs.{Run as Made, run, faults}
use Rattle.node_model.specs.Booting.{booted, Refusal}
use Rattle.node_model.specs.Nodes.{trace_text, end_line}
use Rattle.retos_cli.specs.declared.command.Job.{Job}
use Rattle.retos_cli.specs.declared.command.Command.{Command}
use Rattle.retos_cli.specs.declared.command.Command.TheVariants.{Run, Check, Asm, Insert, Gen}
use Rattle.retos_cli.specs.declared.purpose.Purpose.{Purpose}
use Rattle.retos_cli.specs.declared.purpose.Purpose.TheVariants.{Checked, Application, Source, Plain, Script as Scripted}
use Rattle.retos_cli.specs.declared.outcome.Why.{Why}
use Rattle.retos_cli.specs.declared.outcome.Why.TheVariants as why
use Rattle.retos_cli.specs.declared.outcome.Refused.{Refused}
use Rattle.retos_cli.specs.declared.outcome.Status.{Status}
use Rattle.retos_cli.specs.declared.outcome.Status.TheVariants as status
use Rattle.retos_cli.specs.Words.{word}
use Rattle.retos_cli.specs.Lines.{words_line, refused_line, accepted_lines, assembled_line, inserted_line, generated_line}

-- ---- one input

abbrev pub most_bytes : ℕ
most_bytes = 1048576

-- what is held is the text of an object
abbrev pub IsTextOf : Option (List ℕ) → Object → Type 0
IsTextOf held o = (held ≡ Some (object_bytes o)) × (length (object_bytes o) ≤ most_bytes)

-- the input is to be an object
abbrev pub AsksObject : Purpose → Type 0
AsksObject Checked = Unit {0}
AsksObject Application = Unit {0}
AsksObject Plain = Unit {0}
AsksObject Source = ⊥
AsksObject Scripted = ⊥

-- the input is to be an object that the checker accepts
abbrev pub AsksCheck : Purpose → Type 0
AsksCheck Checked = Unit {0}
AsksCheck Application = Unit {0}
AsksCheck Plain = ⊥
AsksCheck Source = ⊥
AsksCheck Scripted = ⊥

-- what is asked before the check. No object is a text of lines, and one that is to get guards isn't checked
abbrev pub Suits : Purpose → Object → Type 0
Suits Checked o = Unit {0}
Suits Application o = o.kind ≡ kind.App
Suits Source o = ⊥
Suits Plain o = ⊥
Suits Scripted o = ⊥

-- the object is one that the command takes
pub record IsFit (purpose : Purpose) (o : Object) (units : List ℕ) : Type 0 where
  pub suits : Suits purpose o
  pub accepted : IsAccepted o units
  pub bitmap : AreMarks units

-- the input is an accepted object that the command takes
pub record Taken (purpose : Purpose) (held : Option (List ℕ)) (o : Object) (units : List ℕ) : Type 0 where
  pub text : IsTextOf held o
  pub fit : IsFit purpose o units

-- the input is a source that assembles to this object
pub record Assembles (held : Option (List ℕ)) (o : Object) : Type 0 where
  pub source : List ℕ
  pub held_is : held ≡ Some source
  pub short : length source ≤ most_bytes
  pub gives : assembled source ≡ Ok (fields o)

-- the input is an object, with guards this other
pub record Guards (held : Option (List ℕ)) (o q : Object) : Type 0 where
  pub text : IsTextOf held o
  pub gives : IsInserted o q

-- the input is a text that stands for this script
pub record Scripts (held : Option (List ℕ)) (t : Script) : Type 0 where
  pub text : List ℕ
  pub held_is : held ≡ Some text
  pub short : length text ≤ most_bytes
  pub gives : script_of text ≡ Ok t

-- The input is refused for this. A source and a script are refused for a line alone, an object that is to get guards for its text
-- or for what the inserter finds, and an object that is checked for its text, its kind or its check; what isn't held or is too long
-- is none of them. Room is asked for once all inputs are taken
unfoldable pub Refuses : Purpose → Option (List ℕ) → Why → Type 0
Refuses purpose held why.Absent = held ≡ None
Refuses purpose held why.TooLong = (bytes : List ℕ) × (held ≡ Some bytes) × (most_bytes < length bytes)
Refuses purpose held (why.Form k at) = AsksObject purpose × (bytes : List ℕ) × (held ≡ Some bytes) × (length bytes ≤ most_bytes) × (first_form_fault bytes ≡ Some (record { kind = k; offset = at }))
Refuses purpose held why.NotApplication = AsksCheck purpose × (o : Object) × IsTextOf held o × (Suits purpose o → ⊥)
Refuses purpose held (why.Check rule place) = AsksCheck purpose × (o : Object) × IsTextOf held o × Suits purpose o × IsVerdict o (verdict.Refused rule place)
Refuses purpose held (why.Room cause) = ⊥
Refuses purpose held (why.Line line k) = (purpose ≡ Source) × (bytes : List ℕ) × (held ≡ Some bytes) × (length bytes ≤ most_bytes) × (assembled bytes ≡ Err (fault line k))
Refuses purpose held (why.Script line) = (purpose ≡ Scripted) × (bytes : List ℕ) × (held ≡ Some bytes) × (length bytes ≤ most_bytes) × (script_of bytes ≡ Err line)
Refuses purpose held (why.Insert k at) = (purpose ≡ Plain) × (o : Object) × IsTextOf held o × IsFault o k at

-- ---- the inputs of a command

pub record Input : Type 0 where
  pub name : List ℕ
  pub purpose : Purpose

-- a run under a script takes all objects, one without takes an application
abbrev pub form_by : (script : Option (List ℕ)) → Purpose
form_by None = Application
form_by (Some script) = Checked

abbrev pub named_inputs : Purpose → List (List ℕ) → List Input
named_inputs purpose [] = []
named_inputs purpose (name ∷ names) = record { name = name; purpose = purpose } ∷ named_inputs purpose names

abbrev pub behind_script : (script : Option (List ℕ)) → List Input → List Input
behind_script None others = others
behind_script (Some name) others = record { name = name; purpose = Scripted } ∷ others

-- the script, if one is named, and then the objects
abbrev pub job_inputs : Job → List Input
job_inputs job = behind_script job.script (named_inputs (form_by job.script) job.names)

abbrev pub inputs : Command → List Input
inputs (Run job) = job_inputs job
inputs (Check names) = named_inputs Checked names
inputs (Asm from to) = record { name = from; purpose = Source } ∷ []
inputs (Insert from to) = record { name = from; purpose = Plain } ∷ []
inputs (Gen seed to) = []

abbrev pub IsTakenAs : Purpose → Option (List ℕ) → Type 0
IsTakenAs Checked held = (o : Object) × (units : List ℕ) × Taken Checked held o units
IsTakenAs Application held = (o : Object) × (units : List ℕ) × Taken Application held o units
IsTakenAs Source held = (o : Object) × Assembles held o
IsTakenAs Plain held = (o : Object) × (q : Object) × Guards held o q
IsTakenAs Scripted held = (t : Script) × Scripts held t

unfoldable pub IsTaken : Files → Input → Type 0
IsTaken m input = IsTakenAs input.purpose (held m input.name)

-- the first input that is refused, and why
unfoldable pub IsFirstRefused : Files → List Input → Refused → Type 0
IsFirstRefused m [] r = ⊥
IsFirstRefused m (input ∷ others) r =
    ((r.name ≡ input.name) × Refuses input.purpose (held m input.name) r.why)
    ⊎ (IsTaken m input × IsFirstRefused m others r)

-- this is the name of an input, before which nothing is refused
unfoldable pub IsReached : Files → List Input → List ℕ → Type 0
IsReached m [] name = ⊥
IsReached m (input ∷ others) name = (name ≡ input.name) ⊎ (IsTaken m input × IsReached m others name)

-- ---- the objects of several inputs, and their room

-- the inputs of these names are these objects
unfoldable pub AreTaken : Purpose → Files → List (List ℕ) → List Loadable → Type 0
AreTaken purpose m [] [] = Unit {0}
AreTaken purpose m [] (o ∷ os) = ⊥
AreTaken purpose m (name ∷ names) [] = ⊥
AreTaken purpose m (name ∷ names) (o ∷ os) = Taken purpose (held m name) o.object o.units × AreTaken purpose m names os

-- the named script, or the empty one
abbrev pub IsScriptOf : Files → (script : Option (List ℕ)) → Script → Type 0
IsScriptOf m None t = t ≡ empty_script
IsScriptOf m (Some name) t = Scripts (held m name) t

-- all inputs of a run are taken: its script and its objects
pub record IsSupplied (m : Files) (job : Job) (t : Script) (os : List Loadable) : Type 0 where
  pub script : IsScriptOf m job.script t
  pub objects : AreTaken (form_by job.script) m job.names os

-- of these objects the one that is refused is the first for which there is no room
pub record IsUnplaced (os : List Loadable) (names : List (List ℕ)) (r : Refused) : Type 0 where
  pub refusal : Refusal
  pub refused : booted os ≡ Err refusal
  pub named : r.name ≡ word names refusal.object
  pub cause : r.why ≡ why.Room refusal.cause

-- all inputs of a run are taken, and for one of its objects there is no room
pub record LacksRoom (m : Files) (job : Job) (r : Refused) : Type 0 where
  pub script : Script
  pub objects : List Loadable
  pub supplied : IsSupplied m job script objects
  pub unplaced : IsUnplaced objects job.names r

abbrev pub LacksRoomIn : Files → Command → Refused → Type 0
LacksRoomIn m (Run job) r = LacksRoom m job r
LacksRoomIn m (Check names) r = ⊥
LacksRoomIn m (Asm from to) r = ⊥
LacksRoomIn m (Insert from to) r = ⊥
LacksRoomIn m (Gen seed to) r = ⊥

-- a command's first refusal: the first input that is refused, or else the first object for which there is no room
abbrev pub IsFirstRefusal : Files → Command → Refused → Type 0
IsFirstRefusal m command r = IsFirstRefused m (inputs command) r ⊎ LacksRoomIn m command r

-- ---- outputs

-- what a command that nothing refuses writes: to out, and to a file with a name; and whether a run faulted
pub record Output : Type 0 where
  pub out : List ℕ
  pub file : Option (List ℕ × List ℕ)
  pub faulted : Bool

-- the files with the written one
abbrev pub written : Files → Option (List ℕ × List ℕ) → Files
written m None = m
written m (Some file) = insert m file.0 file.1

-- the trace of a run from a system
abbrev pub job_text : Job → Script → List Loadable → System → List ℕ
job_text job t os s = trace_text job.show.all job.show.tail (length os) t s (run job.steps t s)

-- whether a record of the run is a fault
abbrev pub has_faulted : Job → Script → System → Bool
has_faulted job t s = nat_lt 0 (faults (run job.steps t s))

-- the trace of the objects, which all have room, under the script
pub record IsRunOutput (m : Files) (job : Job) (x : Output) : Type 0 where
  pub script : Script
  pub objects : List Loadable
  pub supplied : IsSupplied m job script objects
  pub system : System
  pub boots : booted objects ≡ Ok system
  pub trace : x.out ≡ job_text job script objects system
  pub file_is : x.file ≡ None
  pub faulted_is : x.faulted ≡ has_faulted job script system

-- a line for each object
pub record IsCheckOutput (m : Files) (names : List (List ℕ)) (x : Output) : Type 0 where
  pub objects : List Loadable
  pub taken : AreTaken Checked m names objects
  pub lines : x.out ≡ accepted_lines names objects
  pub file_is : x.file ≡ None
  pub faulted_is : x.faulted ≡ false

-- the object of a source, under the output's name, and its line
pub record IsAsmOutput (m : Files) (from to : List ℕ) (x : Output) : Type 0 where
  pub object : Object
  pub assembles : Assembles (held m from) object
  pub line : x.out ≡ assembled_line to object
  pub file_is : x.file ≡ Some (to, object_bytes object)
  pub faulted_is : x.faulted ≡ false

-- the object with its guards, under the output's name, and its line
pub record IsInsertOutput (m : Files) (from to : List ℕ) (x : Output) : Type 0 where
  pub object : Object
  pub guarded : Object
  pub guards : Guards (held m from) object guarded
  pub line : x.out ≡ inserted_line to guarded
  pub file_is : x.file ≡ Some (to, object_bytes guarded)
  pub faulted_is : x.faulted ≡ false

-- ---- a generated object

-- for how many steps it is run
abbrev pub generated_steps : ℕ
generated_steps = 100000

-- the source object of a number, and that object with its guards and its units
pub record IsGenerated (seed : ℕ) (source : Object) (o : Loadable) : Type 0 where
  pub source_is : fields source ≡ generated seed
  pub gives : IsInserted source o.object
  pub accepted : IsAccepted o.object o.units
  pub bitmap : AreMarks o.units

-- its run, alone and without a script
abbrev pub generated_run : System → Made
generated_run s = run generated_steps empty_script s

-- the object with its guards, under the output's name, its line, and the last line of its run
pub record IsGenOutput (seed : ℕ) (to : List ℕ) (x : Output) : Type 0 where
  pub source : Object
  pub object : Loadable
  pub made : IsGenerated seed source object
  pub system : System
  pub boots : booted (object ∷ []) ≡ Ok system
  pub lines : x.out ≡ generated_line seed (length source.code) object.object object.units ++ end_line empty_script (generated_run system)
  pub file_is : x.file ≡ Some (to, object_bytes object.object)
  pub faulted_is : x.faulted ≡ nat_lt 0 (faults (generated_run system))

unfoldable pub IsOutput : Command → Files → Output → Type 0
IsOutput (Run job) m x = IsRunOutput m job x
IsOutput (Check names) m x = IsCheckOutput m names x
IsOutput (Asm from to) m x = IsAsmOutput m from to x
IsOutput (Insert from to) m x = IsInsertOutput m from to x
IsOutput (Gen seed to) m x = IsGenOutput seed to x

-- ---- the whole, by the words and the files

-- what stands on out and err, and the status
pub record Answer : Type 0 where
  pub out : List ℕ
  pub err : List ℕ
  pub status : Status

abbrev pub refused_answer : Status → List ℕ → Answer
refused_answer s line = record { out = []; err = line; status = s }

abbrev pub status_by : Bool → Status
status_by true = status.Faulted
status_by false = status.Done

abbrev pub done_answer : Output → Answer
done_answer x = record { out = x.out; err = []; status = status_by x.faulted }

-- the first refusal, as a status and a line
unfoldable pub IsRefusal : Option Command → Files → Status → List ℕ → Type 0
IsRefusal None m s line = (s ≡ status.BadWords) × (line ≡ words_line)
IsRefusal (Some command) m s line = (s ≡ status.Refused) × ((r : Refused) × IsFirstRefusal m command r × (line ≡ refused_line r))

unfoldable pub IsDone : Option Command → Files → Output → Type 0
IsDone None m x = ⊥
IsDone (Some command) m x = IsOutput command m x

-- a refusal alone, or the output alone
pub data IsAnswer (command : Option Command) (m : Files) (a : Answer) : Type 0 where
  IsRefused : (s : Status) (line : List ℕ) → IsRefusal command m s line → a ≡ refused_answer s line → IsAnswer command m a
  IsPrinted : (x : Output) → IsDone command m x → a ≡ done_answer x → IsAnswer command m a

-- there is one answer, and one output with its file, and where there is an output no refusal
pub record HasOneAnswer (command : Option Command) (m : Files) : Type 0 where
  pub answer : (a b : Answer) → IsAnswer command m a → IsAnswer command m b → a ≡ b
  pub output : (x y : Output) → IsDone command m x → IsDone command m y → x ≡ y
  pub apart : (s : Status) (line : List ℕ) (x : Output) → IsRefusal command m s line → IsDone command m x → ⊥

-- Bytes and files that are told, or not.
use Rattle.std.specs.Prelude.{◌≡◌, ℕ, ◌-◌, ◌≤◌, ◌<◌, List, [], ◌++◌, length, take, drop, None, Some, Ok, Err}
use Rattle.std.specs.declared.option.Option.{Option}
use Rattle.std.specs.declared.result.Result.{Result}
use Rattle.std.specs.Ordering.{nat_cmp}
use Rattle.std.specs.Cmp.Lexicographic.{slice_cmp}
use Rattle.std.specs.FinMap.{FinMap, get, insert}
use Rattle.edge_io.specs.declared.folder.ReadErr.{ReadErr}
use Rattle.edge_io.specs.declared.folder.ReadErr.TheVariants.{Absent, Failed}
use Rattle.edge_io.specs.declared.whole.InputFault.{InputFault}
use Rattle.edge_io.specs.declared.whole.InputFault.TheVariants as input
use Rattle.edge_io.specs.declared.whole.SinkFault.{SinkFault}
use Rattle.edge_io.specs.declared.whole.SinkFault.TheVariants as fault

-- the files of a folder by their names
abbrev pub Files : Type 0
Files = FinMap (slice_cmp nat_cmp) (List ℕ)

abbrev pub held : Files → List ℕ → Option (List ℕ)
held m name = get m name

-- a folder: its files, where it tells them, its two counts of faults,
-- the name of the last read that failed, and of the last create that didn't
pub record FolderState : Type 0 where
  pub files : Option Files
  pub read_faults : ℕ
  pub write_faults : ℕ
  pub last_failed : Option (List ℕ)
  pub created : Option (List ℕ)

-- a sink: the bytes written, where it tells them, and its count of faults
pub record SinkState : Type 0 where
  pub bytes : Option (List ℕ)
  pub faults : ℕ

-- what is told, and then bs
abbrev pub appended : Option (List ℕ) → List ℕ → Option (List ℕ)
appended None bs = None
appended (Some xs) bs = Some (xs ++ bs)

-- the bytes that a write took
abbrev pub taken : {E : Type 0} → Result ℕ E → List ℕ → List ℕ
taken (Ok n) piece = take n piece
taken (Err e) piece = []

-- what was appended is a prefix of the whole, and bytes of it are left
pub record GotPrefix (old new : Option (List ℕ)) (whole : List ℕ) : Type 0 where
  pub part : List ℕ
  pub rest : List ℕ
  pub whole_is : part ++ rest ≡ whole
  pub short : 0 < length rest
  pub got : new ≡ appended old part

-- what a read from `at` gives, of what the name holds
abbrev pub Gives : Option (List ℕ) → ℕ → List ℕ → Result ℕ ReadErr → Type 0
Gives None at into (Ok n) = ⊥
Gives None at into (Err Absent) = Unit {0}
Gives None at into (Err Failed) = ⊥
Gives (Some bytes) at into (Ok n) = (take n into ≡ take n (drop at bytes)) × (n ≤ length bytes - at) × (n ≡ 0 → 0 < length into → length bytes ≤ at)
Gives (Some bytes) at into (Err Absent) = ⊥
Gives (Some bytes) at into (Err Failed) = Unit {0}

-- the same, where the folder tells its files
abbrev pub GivesOf : Option Files → List ℕ → ℕ → List ℕ → Result ℕ ReadErr → Type 0
GivesOf None name at into result = Unit {0}
GivesOf (Some m) name at into result = Gives (held m name) at into result

-- the files with this name holding these bytes
abbrev pub put : Option Files → List ℕ → List ℕ → Option Files
put None name bytes = None
put (Some m) name bytes = Some (insert m name bytes)

-- what a name holds grows by these bytes
abbrev pub grown : Files → Option (List ℕ) → List ℕ → List ℕ → Files
grown m None name bs = m
grown m (Some old) name bs = insert m name (old ++ bs)

abbrev pub extended : Option Files → List ℕ → List ℕ → Option Files
extended None name bs = None
extended (Some m) name bs = Some (grown m (held m name) name bs)

-- there is no created name, or it is this one
abbrev pub MayCreate : Option (List ℕ) → List ℕ → Type 0
MayCreate None name = Unit {0}
MayCreate (Some created) name = created ≡ name

-- the created name is held, where the files are told
abbrev pub HoldsCreated : Option Files → Option (List ℕ) → Type 0
HoldsCreated None created = Unit {0}
HoldsCreated (Some m) None = Unit {0}
HoldsCreated (Some m) (Some name) = (bytes : List ℕ) × held m name ≡ Some bytes

-- what a whole read answers, by what the name holds
abbrev pub Answers : Option (List ℕ) → Result (List ℕ) InputFault → Type 0
Answers None (Ok bytes) = ⊥
Answers None (Err input.Absent) = Unit {0}
Answers None (Err input.Failed) = ⊥
Answers None (Err input.TooLong) = ⊥
Answers None (Err input.Memory) = Unit {0}
Answers (Some all) (Ok bytes) = (bytes ≡ all) × (length all ≤ 1048576)
Answers (Some all) (Err input.Absent) = ⊥
Answers (Some all) (Err input.Failed) = Unit {0}
Answers (Some all) (Err input.TooLong) = 1048576 < length all
Answers (Some all) (Err input.Memory) = Unit {0}

-- the same, where the folder tells its files
abbrev pub AnswersOf : Option Files → List ℕ → Result (List ℕ) InputFault → Type 0
AnswersOf None name result = Unit {0}
AnswersOf (Some m) name result = Answers (held m name) result

-- the name now holds a prefix of the whole, bytes of it are left, and it is the created name
pub record FilePrefix (before after : FolderState) (name whole : List ℕ) : Type 0 where
  pub part : List ℕ
  pub rest : List ℕ
  pub whole_is : part ++ rest ≡ whole
  pub short : 0 < length rest
  pub files : after.files ≡ put before.files name part
  pub created : after.created ≡ Some name

-- a write of a file that failed: files and created name are as before, or the name holds a prefix
pub data FileLeft (before after : FolderState) (name whole : List ℕ) : Type 0 where
  as_before : after.files ≡ before.files → after.created ≡ before.created → FileLeft before after name whole
  part : FilePrefix before after name whole → FileLeft before after name whole

-- the folder after a write of a file
abbrev pub FileWritten : FolderState → FolderState → List ℕ → List ℕ → Result Unit SinkFault → Type 0
FileWritten before after name whole (Ok done) = (after.files ≡ put before.files name whole) × (after.created ≡ Some name)
FileWritten before after name whole (Err fault.Failed) = FileLeft before after name whole
FileWritten before after name whole (Err fault.TookNone) = FilePrefix before after name whole

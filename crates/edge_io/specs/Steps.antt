-- How far a whole read, a whole write or the write of a file has come.
use Rattle.std.specs.Prelude.{◌≡◌, ℕ, ◌≤◌, List, [], ◌++◌, length, None, Some, Ok, Err}
use Rattle.std.specs.declared.option.Option.{Option}
use Rattle.std.specs.declared.result.Result.{Result}
use Rattle.edge_io.specs.declared.whole.InputFault.{InputFault}
use Rattle.edge_io.specs.declared.whole.InputFault.TheVariants as input
use Rattle.edge_io.specs.declared.folder.ReadErr.TheVariants as read_err
use Rattle.edge_io.specs.Turns.{FolderCall, read_call}
use Rattle.edge_io.specs.Known.{Files, FolderState, held, appended, put}

-- all but this rest of the whole was appended
pub record GotBefore (old new : Option (List ℕ)) (whole rest : List ℕ) : Type 0 where
  pub part : List ℕ
  pub whole_is : part ++ rest ≡ whole
  pub got : new ≡ appended old part

-- the name holds all but this rest of the whole, and is the created name
pub record FileBefore (before after : FolderState) (name whole rest : List ℕ) : Type 0 where
  pub part : List ℕ
  pub whole_is : part ++ rest ≡ whole
  pub files : after.files ≡ put before.files name part
  pub created : after.created ≡ Some name

-- these bytes are the first of what the name holds
abbrev pub Begins : Option (List ℕ) → List ℕ → Type 0
Begins None part = part ≡ []
Begins (Some all) part = (rest : List ℕ) × (part ++ rest ≡ all)

abbrev pub BeginsOf : Option Files → List ℕ → List ℕ → Type 0
BeginsOf None name part = Unit {0}
BeginsOf (Some m) name part = Begins (held m name) part

-- what one turn of a whole read answers, by what the name holds and what was got
abbrev pub Turns : Option (List ℕ) → List ℕ → Result ℕ InputFault → Type 0
Turns None new (Ok n) = ⊥
Turns None new (Err input.Absent) = Unit {0}
Turns None new (Err input.Failed) = ⊥
Turns None new (Err input.TooLong) = ⊥
Turns None new (Err input.Memory) = Unit {0}
Turns (Some all) new (Ok n) = n ≡ 0 → length all ≤ length new
Turns (Some all) new (Err input.Absent) = ⊥
Turns (Some all) new (Err input.Failed) = Unit {0}
Turns (Some all) new (Err input.TooLong) = ⊥
Turns (Some all) new (Err input.Memory) = Unit {0}

abbrev pub TurnsOf : Option Files → List ℕ → List ℕ → Result ℕ InputFault → Type 0
TurnsOf None name new result = Unit {0}
TurnsOf (Some m) name new result = Turns (held m name) new result

-- the read that one turn of a whole read makes, into a slice of this size
abbrev pub TurnCalls : {S : Type 0} → (S → FolderCall → S → Type 0) → List ℕ → ℕ → ℕ → S → S → Result ℕ InputFault → Type 0
TurnCalls called name at size from to (Ok n) = called from (read_call name at (Ok n)) to
TurnCalls called name at size from to (Err input.Absent) = called from (read_call name at (Err read_err.Absent)) to
TurnCalls called name at size from to (Err input.Failed) = called from (read_call name at (Err read_err.Failed)) to
TurnCalls called name at size from to (Err input.TooLong) = ⊥
TurnCalls called name at size from to (Err input.Memory) =
    (n : ℕ) × (n ≤ size) × called from (read_call name at (Ok n)) to

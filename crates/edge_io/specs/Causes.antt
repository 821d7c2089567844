-- When an answer that blames the outside may come: only where a count of faults rose.
use Rattle.std.specs.Prelude.{◌≡◌, ℕ, ◌+◌, ◌-◌, ◌^◌, ◌≤◌, ◌<◌, min, List, Some, Ok, Err, OnErr, IfOk, length, Bool, true, false, if◌then◌else◌}
use Rattle.std.specs.declared.result.Result.{Result}
use Rattle.edge_io.specs.Known.{FolderState}
use Rattle.edge_io.specs.declared.folder.ReadErr.{ReadErr}
use Rattle.edge_io.specs.declared.folder.ReadErr.TheVariants.{Absent, Failed}
use Rattle.edge_io.specs.declared.whole.InputFault.{InputFault}
use Rattle.edge_io.specs.declared.whole.InputFault.TheVariants as input

-- the count rose, or stands at its last value
abbrev pub Rose : ℕ → ℕ → Type 0
Rose before now = min (before + 1) (2 ^ 64 - 1) ≤ now

-- the count neither rose nor stands at its last value
abbrev pub Still : ℕ → ℕ → Type 0
Still before now = now < min (before + 1) (2 ^ 64 - 1)

-- an answer that isn't Ok has its cause
pub record HasCause {T E : Type 0} (before now : ℕ) (result : Result T E) : Type 0 where
  pub later : before ≤ now
  pub failed : OnErr result (Rose before now)

-- the same of a write, where taking nothing of a piece that has bytes is a fault too
pub record WriteCause {E : Type 0} (before now : ℕ) (result : Result ℕ E) (piece : List ℕ) : Type 0 where
  pub later : before ≤ now
  pub failed : OnErr result (Rose before now)
  pub none : IfOk result (λ n. n ≡ 0 → 0 < length piece → Rose before now)

-- this read failed
abbrev pub read_failed : {T : Type 0} → Result T ReadErr → Bool
read_failed (Ok v) = false
read_failed (Err Absent) = false
read_failed (Err Failed) = true

abbrev pub input_failed : {T : Type 0} → Result T InputFault → Bool
input_failed (Ok v) = false
input_failed (Err input.Absent) = false
input_failed (Err input.Failed) = true
input_failed (Err input.TooLong) = false
input_failed (Err input.Memory) = false

-- A read of this name leaves the files, the created name and the other count. It fails only where its count rose,
-- and then this is the last failed name, which else stays.
pub record ReadLeaves (before after : FolderState) (name : List ℕ) (failed : Bool) : Type 0 where
  pub later : before.read_faults ≤ after.read_faults
  pub rose : failed ≡ true → Rose before.read_faults after.read_faults
  pub last : after.last_failed ≡ (if failed then Some name else before.last_failed)
  pub files : after.files ≡ before.files
  pub writes : after.write_faults ≡ before.write_faults
  pub created : after.created ≡ before.created

-- A create or an append leaves what belongs to reads.
pub record WriteLeaves (before after : FolderState) : Type 0 where
  pub reads : after.read_faults ≡ before.read_faults
  pub last : after.last_failed ≡ before.last_failed
